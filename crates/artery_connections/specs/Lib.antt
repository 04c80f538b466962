pub mod Change
pub mod Ends
pub mod Next
pub mod Kept
