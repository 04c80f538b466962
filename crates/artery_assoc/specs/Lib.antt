pub mod Limits
pub mod Peer
