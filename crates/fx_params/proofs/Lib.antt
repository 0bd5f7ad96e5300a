mod Slope
mod KeyLemmas
pub mod ValueLemmas
mod ParamLemmas
mod DivideLemmas
