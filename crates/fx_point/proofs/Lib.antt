pub mod Byte
pub mod Choices
pub mod Chosen
pub mod Places
pub mod Quotients
pub mod Tables
