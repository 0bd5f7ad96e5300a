pub mod Lists
pub mod Keeps
pub mod Rising
pub mod Gathering
pub mod Together
pub mod Turns
pub mod Apart
