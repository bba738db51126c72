pub mod Deadlines
pub mod Limits
pub mod Sockets
