pub mod Journeys
pub mod Moving
pub mod Owning
pub mod Telling
pub mod Written
