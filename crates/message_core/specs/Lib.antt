pub mod Fields
pub mod Limits
pub mod Messages
pub mod Words
