pub mod Command
pub mod Ordered
pub mod Order
pub mod Line
pub mod Seen
pub mod Texts
