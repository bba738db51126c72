pub mod Shortages
