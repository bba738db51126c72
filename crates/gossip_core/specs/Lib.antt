pub mod Dissemination
pub mod Kept
pub mod Pending
pub mod Runs
