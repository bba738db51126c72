pub mod Answering
pub mod Ports
pub mod Timeouts
