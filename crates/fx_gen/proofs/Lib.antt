pub mod Quotients
pub mod Remainders
pub mod Shades
pub mod Written
