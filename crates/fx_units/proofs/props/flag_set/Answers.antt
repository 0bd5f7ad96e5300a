use Rattle.std.proofs.Common.{subst, true}
use Rattle.fx_props.specs.Entries.{HasValues}
use Rattle.fx_props.proofs.EntryLaws.{if_ok}
use Rattle.fx_units.proofs.props.flag_set.Goals as goal

pub returns : goal.returns
returns c = if_ok c.set_with.result _ _ (λ set has. record { yes = true; there = subst (HasValues set) c.in_ok-flag.ensures has }) c.set_with.ensures
