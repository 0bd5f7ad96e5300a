pub mod Value
pub mod Property
pub mod Set
pub mod Entries
