pub mod CallerLemmas
pub mod Lists
pub mod Tallying
pub mod ClaimsLemmas
pub mod Keeps
pub mod Moves
pub mod Sittings
mod Examples
