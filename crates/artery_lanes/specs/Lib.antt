pub mod Calls
pub mod Gate
pub mod Lane
