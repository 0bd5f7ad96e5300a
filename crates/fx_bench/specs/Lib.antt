pub mod Generator
pub mod Graphs
pub mod Frames
