use Rattle.std.proofs.Common.{◌≡◌, ◌∙◌, ℕ, ◌/◌, ℤ, pos, neg_ℤ, ◌-ℤ◌, ◌*ℤ◌, unsigned_abs, ap, subst, sym, refl, arith, w64, to_z, of_z}
use Rattle.std.specs.Int.{int_div_euclid}
use Rattle.std.proofs.lemmas.Int.{ints}
use Rattle.fx_move.specs.Translate.{along}
use Rattle.fx_move.specs.TranslateLaws.{IsAlong, along_is}
use Rattle.fx_move.proofs.translate.reads_along.Goals as goal

along_by : (first : ℤ) (rest : ℕ) (d : ℤ) → first ≡ int_div_euclid (neg_ℤ d) (pos 65536)
    → rest ≡ unsigned_abs (neg_ℤ d -ℤ (int_div_euclid (neg_ℤ d) (pos 65536) *ℤ pos 65536))
    → record { first = first; share = rest / 256 } ≡ along d
along_by first rest d p q = rw (p, q) refl

abs_by : (r : ℕ) (z w : ℤ) → r ≡ unsigned_abs z → z ≡ w → r ≡ unsigned_abs w
abs_by r z w is same = is ∙ ap unsigned_abs same

pub returns-clause-value : goal.returns-clause-value
returns-clause-value c =
    let d = c.args.distance in
    let low = c.requires.0 in
    let high = c.requires.1 in
    let back = to_z w64 (of_z w64 (pos 0 -ℤ to_z w64 (of_z w64 d))) in
    let n : back ≡ neg_ℤ d = omega (arith, ints) in
    let q = c.div_euclid-first.ensures ∙ ap (λ z. int_div_euclid z (pos 65536)) n in
    let near = (along_is d c.requires).first in
    let few = near.0 in
    let most = near.1 in
    let f : to_z w64 (of_z w64 c.div_euclid-first.result) ≡ int_div_euclid (neg_ℤ d) (pos 65536) = omega (arith, ints, q, few, most) in
    let rest = to_z w64 (of_z w64 (back -ℤ to_z w64 (of_z w64 (to_z w64 (of_z w64 c.div_euclid-first.result) *ℤ pos 65536)))) in
    let r : rest ≡ neg_ℤ d -ℤ (int_div_euclid (neg_ℤ d) (pos 65536) *ℤ pos 65536) = omega (arith, ints, f, n, few, most) in
    along_by (to_z w64 (of_z w64 c.div_euclid-first.result)) c.unsigned_abs.result d f
    (abs_by c.unsigned_abs.result rest (neg_ℤ d -ℤ (int_div_euclid (neg_ℤ d) (pos 65536) *ℤ pos 65536)) c.unsigned_abs.ensures.value r)

pub returns-clause-near : goal.returns-clause-near
returns-clause-near c = subst IsAlong (sym (returns-clause-value c)) (along_is c.args.distance c.requires)
