use Rattle.std.proofs.Common.{◌≤◌, refl, arith}
use Rattle.fx_area.specs.Convolve3.{convolve3}
use Rattle.fx_area.specs.Convolve3Laws.{convolve3_laws}
use Rattle.fx_area.proofs.AnswerLaws.{interest_fits, grown_by, wrote_interest}
use Rattle.fx_area.proofs.convolve3.Convolve3ImageEffect.get_regions_of_interest.Goals as goal

few : 1 ≤ 64
few = omega arith

pub write_interest-requires-clause-near : goal.write_interest-requires-clause-near
write_interest-requires-clause-near c =
    let r = c.asked_region.result in
    interest_fits convolve3 c.args._values.now r _ c.grow-region.result convolve3_laws c.requires.asked
    c.asked_region.ensures.window
    (grown_by c.grow-region.result r r 1 1 1 1 c.grow-region.ensures.bounds refl refl refl few few)

pub returns : goal.returns
returns c = λ context region lawful window there.
    let is =
    grown_by c.grow-region.result c.asked_region.result region 1 1 1 1 c.grow-region.ensures.bounds
    (c.asked_region.ensures.value region window.bounds there) refl refl few few in
    wrote_interest c.grow-region.result _ c.args.out_args.now c.write_interest.new.out_args is
    c.in_ok-write_interest.ensures.written
