pub mod Choices
pub mod Helpers
pub mod Order
pub mod Picks
pub mod Probing
pub mod Timers
