pub mod Changed
pub mod Stopped
pub mod Made
