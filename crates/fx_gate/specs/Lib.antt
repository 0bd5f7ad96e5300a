pub mod Gates
pub mod Holding
