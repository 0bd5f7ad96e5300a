use Rattle.std.proofs.Common.{◌&&◌, ℕ, pos, ap, sym}
use Rattle.std.specs.Ordering.{int_eq}
use Rattle.std.proofs.Math.Bool.{and-true}
use Rattle.fx_effect.specs.Numbers.{number}
use Rattle.fx_area.proofs.convolve3.keeps_source.Goals as goal

pub returns : goal.returns
returns c =
    let v = c.args.values.now in
    let z = λ (k : ℕ). int_eq (number v k) (pos 0) in
    let e = int_eq (number v 4) (number v 9) in
    let eight = ap (λ b. e && (z 0 && (z 1 && (z 2 && (z 3 && (z 5 && (z 6 && (z 7 && b)))))))) (sym (and-true (z 8))) in
    rw (c.are_equal.ensures, c.is_zero.ensures, c.is_zero-2.ensures, c.is_zero-3.ensures, c.is_zero-4.ensures, c.is_zero-5.ensures, c.is_zero-6.ensures, c.is_zero-7.ensures, c.is_zero-8.ensures) eight
