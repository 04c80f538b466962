pub mod Bindings
pub mod Exactly
