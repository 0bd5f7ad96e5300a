pub mod Moments
pub mod Reads
pub mod Blocks
pub mod Ends
pub mod Refusals
