pub mod Valid
pub mod Words
