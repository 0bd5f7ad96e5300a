pub mod CallerLemmas
pub mod Flown
pub mod Lent
pub mod Turned
pub mod Asking
pub mod Ending
pub mod Closing
