pub mod Heard
pub mod Good
