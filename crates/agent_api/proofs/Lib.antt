pub mod Answering
pub mod Conversing
pub mod Ending
pub mod Performed
pub mod Refusing
pub mod Requested
pub mod Unsure
