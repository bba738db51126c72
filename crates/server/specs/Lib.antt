pub mod Running
pub mod Seats
pub mod Starting
pub mod Threads
pub mod Working
