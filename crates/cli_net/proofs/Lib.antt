pub mod Told
pub mod ToldLines
pub mod Owned
pub mod Written
pub mod Entered
pub mod Exchanged
