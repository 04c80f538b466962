pub mod Names
pub mod Story
pub mod TopTable
pub mod Counting
pub mod InTables
pub mod OutTable
