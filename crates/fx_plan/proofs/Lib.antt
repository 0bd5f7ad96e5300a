pub mod KeyLemmas
pub mod RankLemmas
pub mod PlanLemmas
pub mod HeldLemmas
pub mod StepLemmas
