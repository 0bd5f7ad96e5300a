pub mod Draws
pub mod Drawing
pub mod Weights
pub mod Working
