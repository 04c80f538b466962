pub mod Each
pub mod Owing
pub mod Found
pub mod Waiting
pub mod Learning
pub mod Dials
