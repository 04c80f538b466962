pub mod Limits
pub mod Outbound
pub mod Inbound
pub mod Rings
pub mod Entries
pub mod Lending
