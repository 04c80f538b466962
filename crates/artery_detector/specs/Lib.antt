pub mod Availability
pub mod Kept
