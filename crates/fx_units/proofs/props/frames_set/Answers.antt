use Rattle.std.proofs.Common.{◌≡◌, pos, neg_ℤ, [], ◌∷◌, refl, subst, ◌∙◌}
use Rattle.fx_props.specs.declared.names.TheConstants.{SEQUENCE}
use Rattle.fx_props.specs.Entries.{HasValues, frames_entry}
use Rattle.fx_props.proofs.EntryLaws.{if_ok}
use Rattle.fx_units.proofs.props.frames_set.Goals as goal

pub returns : goal.returns
returns c =
    let is : c.in_ok-entry.entry ≡ frames_entry SEQUENCE.now ((neg_ℤ (pos 4), pos 5) ∷ []) =
    c.in_ok-entry.ensures ∙ rw (c.in_ok-name.ensures, c.in_ok-frames.ensures.items) refl in
    if_ok c.set_with.result _ _ (λ set has. record { spans = (neg_ℤ (pos 4), pos 5) ∷ []; there = subst (HasValues set) is has }) c.set_with.ensures
