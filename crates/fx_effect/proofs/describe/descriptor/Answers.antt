use Rattle.std.proofs.Common.{◌≡◌, List, [], All, sym, subst}
use Rattle.fx_props.specs.Entries.{Entry, NamesDiffer, IsBlank}
use Rattle.fx_props.proofs.EntryLaws.{if_ok}
use Rattle.fx_effect.specs.Described.{description}
use Rattle.fx_effect.proofs.DescribedLaws.{awaits, blanks_apart}
use Rattle.fx_effect.proofs.describe.descriptor.Goals as goal

pub set_of-requires : goal.set_of-requires
set_of-requires c = subst (λ (entries : List Entry). NamesDiffer entries) (sym c.in_ok-blanks.ensures) blanks_apart

pub returns : goal.returns
returns c s =
    if_ok c.set_of.result _ _
    (λ set blank. awaits (description s) set (subst (λ (entries : List Entry). All (λ e. e.values ≡ [] → IsBlank set e.kind e.name) entries) c.in_ok-blanks.ensures blank))
    c.set_of.ensures.blank
