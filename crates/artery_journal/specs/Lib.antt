pub mod Texts
pub mod Valid
