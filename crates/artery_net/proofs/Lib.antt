pub mod Feeds
pub mod Stories
