pub mod Places
pub mod Coming
pub mod Rounds
pub mod Starting
