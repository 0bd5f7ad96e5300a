pub mod State
pub mod Step
pub mod Sound
pub mod Run
pub mod Shelf
pub mod Seen
pub mod Flight
pub mod Answer
