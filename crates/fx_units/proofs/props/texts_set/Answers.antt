use Rattle.std.proofs.Common.{◌≡◌, List, [], ◌∷◌, codes, refl, subst, ◌∙◌}
use Rattle.fx_props.specs.declared.names.TheConstants.{CONTEXTS}
use Rattle.fx_props.specs.Entries.{Entry, HasValues, texts_entry}
use Rattle.fx_props.proofs.EntryLaws.{if_ok}
use Rattle.fx_units.proofs.props.texts_set.Goals as goal

abbrev shown : Entry
shown = texts_entry CONTEXTS.now (codes "OfxImageEffectContextFilter" ∷ codes "OfxImageEffectContextGeneral" ∷ [])

pub returns : goal.returns
returns c =
    let is : c.in_ok-entry.entry ≡ shown =
    c.in_ok-entry.ensures
    ∙ rw (c.in_ok-name-3.ensures, c.in_ok-push-2.ensures.items, c.in_ok-push.ensures.items, c.new-contexts.ensures.items, c.in_ok-name.ensures, c.in_ok-name-2.ensures) refl in
    if_ok c.set_with.result _ _
    (λ set has. record { items = codes "OfxImageEffectContextFilter" ∷ codes "OfxImageEffectContextGeneral" ∷ []; there = subst (HasValues set) is has })
    c.set_with.ensures
