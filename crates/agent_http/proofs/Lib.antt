pub mod Dated
pub mod Fields
pub mod Framed
pub mod Keyed
pub mod Limited
pub mod Refused
pub mod Shown
pub mod Worded
