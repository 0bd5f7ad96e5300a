use Rattle.std.proofs.Common.{◌<◌, ◌∙◌, pos, ◌-ℤ◌, get_or, subst, arith, w8, Fits}
use Rattle.std.proofs.lemmas.Simd.{Each1-from_get_or}
use lib.Lanes.{Each1}
use Rattle.fx_kernel.specs.SampleLaws.{clamped_few}
use Rattle.fx_area.specs.Convolve3.{rounded_z}
use Rattle.fx_area.proofs.NineLaws.{one_mean, quotient_at, quotients_long, quotients_plain}
use Rattle.fx_area.proofs.convolve3.means.Goals as goal

pub returns-clause-len : goal.returns-clause-len
returns-clause-len c = quotients_long 16 c.args.divisor c.args.factor c.args.sums c.fits-sums.0

pub returns-clause-value : goal.returns-clause-value
returns-clause-value c i low =
    let q = c.args.divisor in let f = c.args.factor in let ts = c.args.sums in
    quotient_at 16 q f ts i c.fits-sums.0 low
    ∙ one_mean q f c.requires.divisor c.requires.factor (get_or ts i 0) (c.requires.sums i low)

pub overflow_cast-result : goal.overflow_cast-result
overflow_cast-result c =
    let q = c.args.divisor in
    let f = c.args.factor in
    let ts = c.args.sums in
    subst (Each1 (Fits w8)) (quotients_plain 16 q f ts) (
    Each1-from_get_or (Fits w8) _ 0 (
    λ i inside.
    let low : i < 16 = omega (arith, inside, quotients_long 16 q f ts c.fits-sums.0) in
    let is =
    quotient_at 16 q f ts i c.fits-sums.0 low
    ∙ one_mean q f c.requires.divisor c.requires.factor (get_or ts i 0) (c.requires.sums i low) in
    let few = clamped_few 255 (rounded_z (pos (get_or ts i 0) -ℤ pos 587520) q) in
    record { fits = omega (arith, is, few) }
    )
    )
