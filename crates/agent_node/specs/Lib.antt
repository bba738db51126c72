pub mod Calling
pub mod Digests
pub mod Errors
pub mod Hosts
pub mod Noting
pub mod PeerLinks
pub mod Rejections
pub mod Tellings
