pub mod CoverLemmas
pub mod GridLaws
pub mod PatternLaws
pub mod PatternLemmas
pub mod RectLaws
pub mod RectLemmas
pub mod RunLaws
