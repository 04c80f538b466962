pub mod Reading
pub mod Journals
