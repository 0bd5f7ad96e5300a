pub mod Transitions
pub mod TransitionsLaws
pub mod Dissolve
pub mod DissolveLaws
pub mod Wipe
pub mod WipeLaws
