use Rattle.std.proofs.Common.{◌∙◌, ◌∷◌, [], codes, ap, subst}
use Rattle.fx_base.specs.Bounds.{Bounds}
use Rattle.fx_props.specs.Entries.{Wrote, interest, region_of}
use Rattle.fx_move.specs.Mirror.{mirror, mirrored}
use Rattle.fx_move.specs.MirrorLaws.{mirror_laws}
use Rattle.fx_move.proofs.AnswerLaws.{interest_fits}
use Rattle.fx_move.proofs.mirror.MirrorImageEffect.get_regions_of_interest.Goals as goal

pub write_interest-requires-clause-near : goal.write_interest-requires-clause-near
write_interest-requires-clause-near c =
    let v = c.args.values.now in
    interest_fits mirror v c.asked_region.result _ c.mirrored-region.result mirror_laws c.requires.asked c.asked_region.ensures.window
    c.mirrored-region.ensures

pub returns : goal.returns
returns c = λ context region lawful window there.
    let v = c.args.values.now in
    let is = c.mirrored-region.ensures ∙ ap (mirrored v) (c.asked_region.ensures.value region window.bounds there) in
    subst (λ (r : Bounds). Wrote (interest (codes "Source" ∷ []) (region_of (r ∷ []))) c.args.out_args.now c.write_interest.new.out_args) is c.in_ok-write_interest.ensures.written
