use Rattle.std.proofs.Common.{◌≡◌, ℕ, ◌<◌, length, get_or}
use Rattle.fx_point.specs.Factors.{factor_of}
use Rattle.fx_point.proofs.unpremult.factors.Given as goal

abbrev pub invariant-loop-a : goal.invariant-loop-a
invariant-loop-a l =
    record { long : length l.factors ≡ 256; filled : (k : ℕ) → k < l.a → get_or l.factors k 0 ≡ factor_of k }
