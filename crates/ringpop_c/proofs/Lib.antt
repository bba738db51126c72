pub mod Creation
pub mod Boxes
pub mod Exports
pub mod Placed
pub mod Sending
pub mod Sent
pub mod Sights
pub mod Walking
