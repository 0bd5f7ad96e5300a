pub mod Read
pub mod Clips
pub mod Asking
