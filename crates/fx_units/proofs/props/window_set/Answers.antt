use Rattle.std.proofs.Common.{◌≡◌, pos, neg_ℤ, inr, refl, subst, arith, ◌∙◌}
use Rattle.std.proofs.lemmas.Int.{ints}
use Rattle.fx_base.specs.Bounds.{Bounds}
use Rattle.fx_props.specs.declared.names.TheConstants.{WINDOW}
use Rattle.fx_props.specs.Entries.{HasValues, window_entry}
use Rattle.fx_props.proofs.EntryLaws.{if_ok}
use Rattle.fx_units.proofs.props.window_set.Goals as goal

abbrev window : Bounds
window = record { x1 = neg_ℤ (pos 1); y1 = pos 2; x2 = pos 30; y2 = pos 40 }

pub returns : goal.returns
returns c =
    let is : c.in_ok-entry.entry ≡ window_entry WINDOW.now window = c.in_ok-entry.ensures ∙ rw (c.in_ok-name.ensures, c.in_ok-window.ensures.items) refl in
    if_ok c.set_with.result _ _
    (λ set has. record { window = window; rect = inr (omega (arith, ints), omega (arith, ints)); there = subst (HasValues set) is has })
    c.set_with.ensures
