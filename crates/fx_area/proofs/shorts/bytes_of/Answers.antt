use Rattle.std.proofs.Common.{◌≡◌, refl, ◌*◌, ◌+◌, ◌%◌, get_or, ap, arith, w16, Fits}
use Rattle.std.proofs.lemmas.Simd.{get_or_narrower, Each1-get_or, below_from_Fits}
use lib.Lanes.{digits_l, number_l}
use Rattle.fx_area.proofs.ShortLaws.{bytes_of_lane}
use Rattle.fx_area.proofs.shorts.bytes_of.Goals as goal

pub returns-clause-value : goal.returns-clause-value
returns-clause-value c i low =
    let lanes = c.args.samples in
    let bytes = digits_l 256 32 (number_l 65536 lanes) in
    let wide = c.fits-samples.0 in
    let fit = below_from_Fits w16 lanes c.fits-samples.1 in
    let own = Each1-get_or (Fits w16) lanes i 0 (omega arith) c.fits-samples.1 in
    let is : 2 * i ≡ 2 * i + 0 = omega arith in
    let first : get_or bytes (2 * i) 0 ≡ get_or lanes i 0 % 256 =
    omega (arith, ap (λ k. get_or bytes k 0) is, get_or_narrower 65536 2 256 32 lanes i 0 refl fit (omega arith) (omega arith)) in
    bytes_of_lane (get_or lanes i 0) bytes c.swapped.result i own.fits c.swapped.ensures.value low first
    (get_or_narrower 65536 2 256 32 lanes i 1 refl fit (omega arith) (omega arith))
