pub mod Histories
pub mod Losses
pub mod Sharing
