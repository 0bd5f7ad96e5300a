pub mod FillingLemmas
pub mod RefusalLaws
pub mod Reading
pub mod LookLemmas
pub mod MomentLemmas
