pub mod Heard
pub mod Meanings
