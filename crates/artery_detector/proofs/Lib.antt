pub mod Beats
pub mod Counted
