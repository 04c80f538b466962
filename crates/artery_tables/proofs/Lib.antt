pub mod Sameness
pub mod Numbers
pub mod Stories
pub mod Ranks
pub mod Uses
pub mod Pairs
pub mod Histories
