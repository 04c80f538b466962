pub mod Envelope
pub mod FirstFault
