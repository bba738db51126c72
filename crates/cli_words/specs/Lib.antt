pub mod CommandLine
pub mod Faults
pub mod Whole
pub mod Words
