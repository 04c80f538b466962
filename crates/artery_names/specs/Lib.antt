pub mod Ordinary
pub mod Versions
