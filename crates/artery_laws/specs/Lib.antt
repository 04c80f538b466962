pub mod Over
pub mod Standing
pub mod Bytes
pub mod Outcome
pub mod Taking
pub mod Cutting
pub mod OverWays
pub mod Network
