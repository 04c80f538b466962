pub mod Places
pub mod Turns
pub mod Events
pub mod Scripts
