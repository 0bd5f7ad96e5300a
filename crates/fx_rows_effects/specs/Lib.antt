pub mod Asked
pub mod Toy
