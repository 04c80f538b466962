pub mod Asked
pub mod Each
pub mod Counting
