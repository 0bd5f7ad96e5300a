pub mod Def
pub mod Value
pub mod Keys
pub mod Parameter
