use Rattle.std.proofs.Common.{◌≡◌, take}
use Rattle.fx_tile.specs.Counts.{CanCount}
use Rattle.fx_tile.specs.Moments.{count_of_all}
use Rattle.fx_tile.proofs.batch.count_all.Given as goal

abbrev pub invariant-loop-found : goal.invariant-loop-found
invariant-loop-found l =
    record {
      sum : l.sum ≡ count_of_all (take l.found-index l.tiles);
      can : CanCount l.sum;
    }
