pub mod Phases
pub mod Nodes
pub mod Lives
mod RunningLemmas
mod Places
mod PostLemmas
pub mod LifeLemmas
pub mod Filling
