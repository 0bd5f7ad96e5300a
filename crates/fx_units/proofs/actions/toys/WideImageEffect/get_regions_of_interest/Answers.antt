use Rattle.std.proofs.Common.{◌∙◌, [], ◌∷◌, codes, pos, ap, sym, subst, arith}
use Rattle.fx_base.specs.Bounds.{Bounds}
use Rattle.fx_base.specs.Rect.{grown, IsNear, IsUpTo}
use Rattle.fx_props.specs.Entries.{region_of, Wrote, interest}
use Rattle.fx_units.proofs.ActionsToyLemmas.{grown_up_to, both_up_to}
use Rattle.fx_units.proofs.actions.toys.WideImageEffect.get_regions_of_interest.Goals as goal

pub grow-needed-requires-clause-near : goal.grow-needed-requires-clause-near
grow-needed-requires-clause-near c =
    let asked = c.requires.region in
    subst IsNear (sym (c.asked_region.ensures.value asked.region asked.window.bounds asked.there)) asked.window.near

pub write_interest-requires-clause-near : goal.write_interest-requires-clause-near
write_interest-requires-clause-near c =
    let asked = c.requires.region in
    let is = c.grow-needed.ensures.bounds ∙ ap (λ r. grown r (pos 2) (pos 2)) (c.asked_region.ensures.value asked.region asked.window.bounds asked.there) in
    both_up_to c.grow-needed.result (subst (IsUpTo 2147483648) (sym is) (grown_up_to asked.region 2 (omega arith) asked.window))

pub returns : goal.returns
returns c = λ context region lawful window there.
    let is = c.grow-needed.ensures.bounds ∙ ap (λ r. grown r (pos 2) (pos 2)) (c.asked_region.ensures.value region window.bounds there) in
    subst (λ (r : Bounds). Wrote (interest (codes "A" ∷ codes "B" ∷ []) (region_of (r ∷ r ∷ []))) c.args.out_args.now c.write_interest.new.out_args) is c.in_ok-write_interest.ensures.written
