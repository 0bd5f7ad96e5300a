use Rattle.std.proofs.Common.{ap, subst, w64}
use Rattle.std.proofs.lemmas.Int.{to_z-of_z}
use Rattle.std.specs.Option.{option_map}
use mir.Val.{SFits}
use Rattle.fx_base.specs.Bounds.{Bounds}
use Rattle.fx_base.specs.Rect.{Holds}
use Rattle.fx_scene.proofs.Outside.{outside_zero}
use Rattle.fx_region.specs.declared.regions.Reached.{Reached}
use Rattle.fx_region.proofs.regions.Regions.rod.Goals as goal

pub returns-clause-there : goal.returns-clause-there
returns-clause-there c =
    let fits : SFits w64 c.args.frame = c.ranges.frame in
    let known = simp to_z-of_z at c.known.ensures.there in
    ap (option_map (λ (r : Reached). r.area)) known

pub returns-clause-area : goal.returns-clause-area
returns-clause-area c nodes right = right c.args.node c.args.frame _ (returns-clause-there c)

pub returns-clause-zero : goal.returns-clause-zero
returns-clause-zero c nodes ok right x y out =
    outside_zero nodes ok c.args.node c.args.frame x y
    (subst (λ (r : Bounds). Holds r x y → ⊥) (returns-clause-area c nodes right) out)
