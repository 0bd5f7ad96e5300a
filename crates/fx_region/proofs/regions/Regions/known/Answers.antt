use Rattle.std.proofs.Common.{◌∙◌, sym, ap, w64, Option, is_some}
use Rattle.std.proofs.lemmas.Bool.{false≢true}
use Rattle.std.proofs.lemmas.Int.{to_z-of_z}
use Rattle.std.specs.Option.{option_copied, option_map}
use mir.Val.{SFits}
use Rattle.fx_region.specs.declared.regions.Reached.{Reached}
use Rattle.fx_region.proofs.regions.Regions.known.Goals as goal

pub unreachable-requires : goal.unreachable-requires
unreachable-requires c =
    let fits : SFits w64 c.args.frame = c.ranges.frame in
    let value = simp to_z-of_z at c.get.ensures.value in
    false≢true (ap (λ (o : Option Reached). is_some o) (sym (ap option_copied c.in-None.is) ∙ value) ∙ c.requires)

pub returns-clause-there : goal.returns-clause-there
returns-clause-there c =
    let fits : SFits w64 c.args.frame = c.ranges.frame in
    let value = simp to_z-of_z at c.get.ensures.value in
    sym value ∙ ap option_copied c.in-Some.is

pub returns-clause-area : goal.returns-clause-area
returns-clause-area c nodes right =
    right c.args.node c.args.frame _ (ap (option_map (λ (r : Reached). r.area)) (returns-clause-there c))

pub returns-clause-asked : goal.returns-clause-asked
returns-clause-asked c nodes asked = asked c.args.node c.args.frame _ (returns-clause-there c)
