use Rattle.std.proofs.Common.{◌≡◌, ◌*ℤ◌, pos, w64, to_z, of_z, arith}
use Rattle.std.proofs.lemmas.Int.{ints, to_z-of_z}
use Rattle.fx_image.proofs.ImageLaws.{fits_near}
use Rattle.fx_area.proofs.ConvolveLaws.{product_near}
use Rattle.fx_area.proofs.convolve3.product.Goals as goal

pub overflow_mul-result : goal.overflow_mul-result
overflow_mul-result c =
    let k = c.args.number in
    let s = c.args.sample in
    let low = c.requires.0 in
    let high = c.requires.1 in
    let p : to_z w64 (of_z w64 k) ≡ k = omega (arith, ints, low, high) in
    let q : to_z w64 (of_z w64 c.from.result) ≡ pos s = omega (arith, ints, c.from.ensures) in
    let near = product_near k s c.requires (omega arith) in
    rw (p, q) (fits_near (k *ℤ pos s) (omega (arith, ints, near.0)) (omega (arith, ints, near.1)))

pub returns-clause-value : goal.returns-clause-value
returns-clause-value c =
    let k = c.args.number in
    let s = c.args.sample in
    let low = c.requires.0 in
    let high = c.requires.1 in
    let p : to_z w64 (of_z w64 k) ≡ k = omega (arith, ints, low, high) in
    let q : to_z w64 (of_z w64 c.from.result) ≡ pos s = omega (arith, ints, c.from.ensures) in
    let near = product_near k s c.requires (omega arith) in
    rw (p, q) (to_z-of_z w64 (k *ℤ pos s) (fits_near (k *ℤ pos s) (omega (arith, ints, near.0)) (omega (arith, ints, near.1))))

pub returns-clause-near : goal.returns-clause-near
returns-clause-near c =
    rw (returns-clause-value c) (product_near c.args.number c.args.sample c.requires (omega arith))
