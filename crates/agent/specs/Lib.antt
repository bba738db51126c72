pub mod Journeys
pub mod Notices
pub mod Owning
pub mod Services
pub mod Settings
pub mod Texts
