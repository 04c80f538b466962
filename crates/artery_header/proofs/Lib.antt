pub mod Layouts
pub mod Faults
pub mod Canonical
pub mod Written
