pub mod WordLemmas
pub mod EndedLemmas
pub mod ModeLemmas
