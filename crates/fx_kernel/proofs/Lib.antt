pub mod LaneLaws
pub mod ByteLaws
pub mod FactorLaws
mod FourLaws
mod WindowLaws
