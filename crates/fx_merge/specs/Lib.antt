pub mod Merges
pub mod MergesLaws
pub mod Merge
pub mod MergeLaws
pub mod Keymix
pub mod KeymixLaws
