pub mod MomentLemmas
pub mod ReadLemmas
pub mod BlockLemmas
pub mod FlowLemmas
pub mod RefusalLemmas
