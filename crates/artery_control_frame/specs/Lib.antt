pub mod ControlFrame
