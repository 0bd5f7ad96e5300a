pub mod Ends
pub mod Needs
pub mod Suffice
pub mod Counts
pub mod Tables
pub mod Follow
pub mod Stands
pub mod Held
