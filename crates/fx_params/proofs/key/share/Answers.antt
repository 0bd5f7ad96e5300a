use Rattle.std.proofs.Common.{◌*ℤ◌, ◌^◌, FitsSigned, lit<, ◌∙◌, arith}
use Rattle.std.specs.Int.{w128}
use Rattle.std.proofs.lemmas.Int.{ints, to_z-of_z, fits_signed_mul}
use Rattle.fx_params.proofs.key.share.Goals as goal

-- the product fits, so the quotient is that of the numbers themselves
pub returns : goal.returns
returns c =
    let product : FitsSigned w128 (c.args.rise *ℤ c.args.part) = fits_signed_mul w128 c.args.rise c.args.part (2 ^ 64) (2 ^ 31) (omega (arith, ints)) (omega (arith, ints)) (lit< tt) in
    let rise = c.ranges.rise in
    let part = c.ranges.part in
    let whole = c.ranges.whole in
    to_z-of_z w128 _ (record { sfits = c.div_euclid.type_inv }) ∙ simp to_z-of_z at c.div_euclid.ensures
