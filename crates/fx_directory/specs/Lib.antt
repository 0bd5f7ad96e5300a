pub mod Rows
pub mod Keeps
pub mod Seats
pub mod Sitting
