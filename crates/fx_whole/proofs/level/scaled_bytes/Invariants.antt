use Rattle.std.proofs.Common.{◌≡◌, ℕ, ◌<◌, length, get_or}
use Rattle.fx_whole.specs.Autogain.{scaled}
use Rattle.fx_whole.proofs.level.scaled_bytes.Given as goal

abbrev pub invariant-loop-c : goal.invariant-loop-c
invariant-loop-c l =
    record {
      long : length l.bytes ≡ 256;
      filled : (k : ℕ) → k < l.c → get_or l.bytes k 0 ≡ scaled 255 l.fn.level k;
    }
