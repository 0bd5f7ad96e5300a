mod SetLemmas
pub mod EntryLaws
pub mod ReadLemmas
