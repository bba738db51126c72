pub mod Points
pub mod Servers
pub mod Serving
pub mod RingModel
pub mod Consistency
pub mod Steps
