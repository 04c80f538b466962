pub mod Lines
pub mod Laws
pub mod Kept
pub mod Views
pub mod Keys
