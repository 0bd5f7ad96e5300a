use Rattle.std.proofs.Common.{◌≡◌, pos, neg_ℤ, inr, refl, subst, arith, ◌∙◌}
use Rattle.std.proofs.lemmas.Int.{ints}
use Rattle.fx_base.specs.Bounds.{Bounds}
use Rattle.fx_props.specs.declared.names.TheConstants.{REGION}
use Rattle.fx_props.specs.Entries.{HasValues, region_entry}
use Rattle.fx_props.proofs.EntryLaws.{if_ok}
use Rattle.fx_units.proofs.props.region_set.Goals as goal

abbrev region : Bounds
region = record { x1 = neg_ℤ (pos 2); y1 = pos 0; x2 = pos 3; y2 = pos 1 }

pub returns : goal.returns
returns c =
    let is : c.in_ok-entry.entry ≡ region_entry REGION.now region = c.in_ok-entry.ensures ∙ rw (c.in_ok-name.ensures, c.in_ok-region.ensures.items) refl in
    if_ok c.set_with.result _ _
    (λ set has. record { region = region; rect = inr (omega (arith, ints), omega (arith, ints)); there = subst (HasValues set) is has })
    c.set_with.ensures
