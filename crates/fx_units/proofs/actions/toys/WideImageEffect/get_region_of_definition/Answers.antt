use Rattle.std.proofs.Common.{◌≡◌, ◌∙◌, [], ◌∷◌, pos, ap, sym, subst, arith}
use Rattle.fx_base.specs.Bounds.{Bounds}
use Rattle.fx_base.specs.Rect.{hull, grown, IsNear, IsUpTo}
use Rattle.fx_props.specs.Entries.{region_of, Wrote, region_entry}
use Rattle.fx_props.specs.declared.names.TheConstants.{REGION}
use Rattle.fx_units.proofs.ActionsToyLemmas.{IsWindow-hull, IsWindow-region, grown_up_to}
use Rattle.fx_units.proofs.actions.toys.WideImageEffect.get_region_of_definition.Goals as goal

pub grow-requires-clause-near : goal.grow-requires-clause-near
grow-requires-clause-near c =
    let v = c.args._values.now in
    let regions = c.args.regions.now in
    let is : c.hull-hull.result ≡ hull (region_of regions 0) (region_of regions 1) = c.hull-hull.ensures.bounds ∙ ap (λ r. hull r c.region_of-2.result) c.region_of.ensures ∙ ap (hull (region_of regions 0)) c.region_of-2.ensures in
    subst IsNear (sym is) (IsWindow-hull (region_of regions 0) (region_of regions 1) (IsWindow-region 0 v regions c.requires.regions) (IsWindow-region 1 v regions c.requires.regions)).near

pub write_region-requires-clause-near : goal.write_region-requires-clause-near
write_region-requires-clause-near c =
    let v = c.args._values.now in
    let regions = c.args.regions.now in
    let is : c.hull-hull.result ≡ hull (region_of regions 0) (region_of regions 1) = c.hull-hull.ensures.bounds ∙ ap (λ r. hull r c.region_of-2.result) c.region_of.ensures ∙ ap (hull (region_of regions 0)) c.region_of-2.ensures in
    let window = IsWindow-hull (region_of regions 0) (region_of regions 1) (IsWindow-region 0 v regions c.requires.regions) (IsWindow-region 1 v regions c.requires.regions) in
    subst (IsUpTo 2147483648) (sym (c.grow.ensures.bounds ∙ ap (λ r. grown r (pos 1) (pos 1)) is)) (grown_up_to (hull (region_of regions 0) (region_of regions 1)) 1 (omega arith) window)

pub returns : goal.returns
returns c = λ context lawful.
    let regions = c.args.regions.now in
    let is : c.hull-hull.result ≡ hull (region_of regions 0) (region_of regions 1) = c.hull-hull.ensures.bounds ∙ ap (λ r. hull r c.region_of-2.result) c.region_of.ensures ∙ ap (hull (region_of regions 0)) c.region_of-2.ensures in
    subst (λ (r : Bounds). Wrote (region_entry REGION.now r ∷ []) c.args.out_args.now c.write_region.new.out_args) (c.grow.ensures.bounds ∙ ap (λ r. grown r (pos 1) (pos 1)) is) c.in_ok-write_region.ensures.written
