pub mod Outside
pub mod Calls
pub mod Memory
pub mod Objects
pub mod Sure
pub mod Real
