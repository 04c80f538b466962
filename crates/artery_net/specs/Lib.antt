pub mod Coming
pub mod Counting
pub mod Feeding
pub mod InMemory
pub mod Seeing
pub mod Story
