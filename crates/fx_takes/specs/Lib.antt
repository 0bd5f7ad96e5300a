pub mod Shown
pub mod Accepted
