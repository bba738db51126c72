pub mod Called
pub mod Made
