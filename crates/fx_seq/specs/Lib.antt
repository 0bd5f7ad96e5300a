pub mod Filling
pub mod Frames
pub mod Moments
pub mod Lists
pub mod Held
pub mod Windows
