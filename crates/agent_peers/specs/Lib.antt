pub mod Admissions
pub mod Joins
pub mod Lines
pub mod Relays
pub mod Rounds
pub mod Serving
