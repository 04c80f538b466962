pub mod Stream
pub mod Kept
pub mod Standing
