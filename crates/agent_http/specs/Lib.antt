pub mod Exchanges
pub mod Framings
pub mod Lists
pub mod Passing
pub mod Replies
pub mod Requests
pub mod Visits
