pub mod Owing
pub mod Dropping
pub mod Dials
