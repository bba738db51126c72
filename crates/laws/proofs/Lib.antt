mod Altering
mod Calling
mod Closing
mod Completing
mod Converging
mod Covering
mod Delivering
pub mod Disagreeing
mod Ending
mod Exchanging
mod Leaving
mod Measure
mod Moving
mod Owning
mod Partitions
mod Pinging
mod Reading
mod Reconciling
mod Remaining
pub mod Rising
mod Rounds
mod Scripting
mod Sendings
mod Sharing
mod Sizes
mod Spreading
mod Staying
mod Telling
pub mod Witnessing
mod Worlds
