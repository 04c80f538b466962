pub mod Telling
pub mod Bytes
pub mod Lines
