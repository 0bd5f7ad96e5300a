use Rattle.std.proofs.Common.{◌≡◌, ℕ, ◌<◌, length, get_or}
use Rattle.fx_point.specs.Posterise.{posterised}
use Rattle.fx_point.proofs.posterise.Posterising.of.Given as goal

abbrev pub invariant-loop-c : goal.invariant-loop-c
invariant-loop-c l =
    record {
      long : length l.table ≡ 256;
      filled : (k : ℕ) → k < l.c → get_or l.table k 0 ≡ posterised 255 l.fn.levels k;
    }
