pub mod Counted
pub mod Opening
