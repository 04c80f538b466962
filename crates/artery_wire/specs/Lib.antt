pub mod Fault
pub mod Record
pub mod FirstFault
pub mod Reading
pub mod Reader
pub mod Writing
pub mod Laws
