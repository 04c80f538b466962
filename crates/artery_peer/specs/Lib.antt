pub mod Accepting
pub mod Current
pub mod Showing
pub mod Counting
