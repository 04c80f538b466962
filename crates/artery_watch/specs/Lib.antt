pub mod Entries
pub mod Keys
pub mod Notice
pub mod Place
pub mod Standing
pub mod Story
pub mod Watcher
