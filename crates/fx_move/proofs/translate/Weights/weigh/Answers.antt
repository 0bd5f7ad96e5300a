use Rattle.std.proofs.Common.{◌≡◌, ◌≤◌, ◌+◌, ◌*◌, ℕ, ap, sym, subst, arith}
use Rattle.std.proofs.Math.Nat.{mul-le-mul_left}
use Rattle.fx_kernel.specs.Blends.{in_units}
use Rattle.fx_kernel.specs.BlendLaws.{in_units-bound}
use Rattle.fx_move.proofs.translate.Weights.weigh.Goals as goal

bounded : (p q r s a b c d m : ℕ) → p + q + r + s ≡ 65536 → a ≤ m → b ≤ m → c ≤ m → d ≤ m → in_units (p * a + q * b + (r * c + s * d)) ≤ m
bounded p q r s a b c d m whole h i j k =
    let e = mul-le-mul_left p h in
    let f = mul-le-mul_left q i in
    let g = mul-le-mul_left r j in
    let l = mul-le-mul_left s k in
    in_units-bound (p * a + q * b + (r * c + s * d)) m (omega (arith, e, f, g, l, ap (λ t. t * m) whole))

pub returns-clause-bound : goal.returns-clause-bound
returns-clause-bound c m h i j k =
    let w = c.args.self in
    subst (λ n. n ≤ m) (sym c.in_units.ensures)
    (bounded w.left_low w.left_high w.right_low w.right_high c.from.result c.from-2.result c.from-3.result c.from-4.result m c.requires.whole
    (omega (arith, c.from.ensures, h)) (omega (arith, c.from-2.ensures, i)) (omega (arith, c.from-3.ensures, j)) (omega (arith, c.from-4.ensures, k)))
