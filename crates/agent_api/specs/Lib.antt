pub mod Answers
pub mod Asking
pub mod Connections
pub mod Ending
pub mod HttpRefusals
pub mod Onces
pub mod Patience
pub mod Performing
