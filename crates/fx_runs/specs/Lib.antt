pub mod Stretches
pub mod Made
