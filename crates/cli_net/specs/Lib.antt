pub mod Asking
pub mod Commands
pub mod Dialled
pub mod Echoes
pub mod Membership
pub mod Owning
pub mod Service
pub mod Telling
