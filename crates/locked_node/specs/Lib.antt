pub mod History
pub mod Passes
pub mod Agreement
pub mod Losses
