pub mod Orders
pub mod Taken
pub mod Prefixes
