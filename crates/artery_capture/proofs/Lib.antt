pub mod Appending
pub mod Entries
pub mod Faults
pub mod Showing
pub mod Longer
pub mod Telling
