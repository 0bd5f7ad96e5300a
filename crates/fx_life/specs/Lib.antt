pub mod Plugin
pub mod Course
pub mod Life
pub mod Running
pub mod Posts
pub mod Filled
