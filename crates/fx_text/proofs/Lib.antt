pub mod Unknown
pub mod Rows
pub mod Faults
pub mod Counts
pub mod Pairs
pub mod PrintedLaws
pub mod Rising
pub mod MigratedLaws
