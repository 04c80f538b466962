pub mod ControlText
pub mod FrameText
pub mod Shown
pub mod Captured
