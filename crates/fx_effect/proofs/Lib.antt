pub mod PieceLaws
pub mod BandLaws
pub mod RunLaws
pub mod DescribedLaws
pub mod EightLaws
pub mod WindowLaws
pub mod FitLaws
