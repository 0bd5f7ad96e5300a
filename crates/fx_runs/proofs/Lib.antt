pub mod FrameLemmas
pub mod PlainReels
pub mod SplitFiles
pub mod SplitImages
pub mod SplitLemmas
