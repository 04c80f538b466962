pub mod Parts
pub mod Merges
pub mod Answers
pub mod Merging
pub mod Outcome
