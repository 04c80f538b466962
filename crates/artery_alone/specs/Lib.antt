pub mod Alone
pub mod Network
