use Rattle.std.proofs.Common.{◌≡◌, ◌+◌, ◌-◌, ◌*◌, ℕ, ap, arith}
use Rattle.fx_move.proofs.translate.Weights.of.Goals as goal

whole : (a w b u : ℕ) → a + w ≡ 256 → b + u ≡ 256 → a * b + a * u + w * b + w * u ≡ 65536
whole a w b u across upward = omega (arith, ap (λ t. a * t) upward, ap (λ t. w * t) upward, across)

pub returns-clause-whole : goal.returns-clause-whole
returns-clause-whole c =
    let x = c.args.across.share in
    let y = c.args.upward.share in
    record { whole = whole (256 - x) x (256 - y) y (omega arith) (omega arith) }
