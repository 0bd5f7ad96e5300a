use Rattle.std.proofs.Common.{codes, subst}
use Rattle.fx_props.specs.Entries.{HasValues}
use Rattle.fx_props.proofs.EntryLaws.{if_ok}
use Rattle.fx_units.proofs.props.text_set.Goals as goal

pub returns : goal.returns
returns c = if_ok c.set_with.result _ _ (λ set has. record { text = codes "Mask"; there = subst (HasValues set) c.in_ok-text.ensures has }) c.set_with.ensures
