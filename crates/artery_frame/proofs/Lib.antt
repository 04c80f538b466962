pub mod Cuts
pub mod Fronts
pub mod Frames
pub mod Preambles
pub mod Readings
pub mod Pieces
pub mod Holding
pub mod Stood
