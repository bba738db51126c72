pub mod Routes
pub mod Attempts
pub mod Decided
pub mod Schedule
