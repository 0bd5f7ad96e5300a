pub mod Tallies
pub mod Claims
pub mod Seats
pub mod Turning
pub mod Sitting
