use Rattle.std.proofs.Common.{◌≡◌, List, All, refl, subst, ◌∙◌}
use Rattle.fx_props.specs.Entries.{Entry, HasValues}
use Rattle.fx_effect.specs.Described.{clip_description}
use Rattle.fx_props.proofs.EntryLaws.{if_ok}
use Rattle.fx_effect.proofs.describe.clip_set.Goals as goal

pub returns : goal.returns
returns c =
    let entries = clip_description (record { name = c.args.name.now; optional = c.args.optional }) c.args.components.now in
    let same : c.in_ok-entries.entries.items ≡ entries = c.in_ok-entries.ensures.items ∙ rw (c.in_ok-text.ensures, c.in_ok-flag.ensures, c.in_ok-words.ensures) refl in
    if_ok c.set_of.result _ _ (λ set all. subst (λ (es : List Entry). All (HasValues set) es) same all) c.set_of.ensures.values
