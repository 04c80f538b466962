pub mod Answers
pub mod Flight
pub mod Names
pub mod Numbers
