pub mod Varints
pub mod Fields
pub mod Alls
pub mod Steps
pub mod ReadingLaws
pub mod Appends
pub mod Written
