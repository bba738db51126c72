pub mod Marks
pub mod Pools
pub mod Exchanges
