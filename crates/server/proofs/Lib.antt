pub mod Worked
pub mod Crew
pub mod Starts
pub mod Requested
