use Rattle.std.proofs.Common.{◌≡◌, ◌+◌, All, drop, vec_len}
use Rattle.fx_pool.specs.Weights.{plus, weigh}
use Rattle.fx_tile.specs.Moments.{AreDrawn, IsFree, count_weight, seat_weight}
use Rattle.fx_tile.proofs.batch.draw_bands.Given as goal

abbrev pub invariant-batches : goal.invariant-batches
invariant-batches g l =
    record {
      many : vec_len l.drawn.bands + vec_len l.left ≡ vec_len l.fn.bands;
      left : l.left.items ≡ drop (vec_len l.drawn.bands) l.fn.bands.items;
      drawn :
          AreDrawn g.E.ImageEffect.meaning l.setup l.fn.frame l.fn.columns l.tiles l.fn.bands.items l.drawn.bands.items l.drawn.count;
      rises : weigh seat_weight l.drawn.seats.items ≡ plus (weigh seat_weight l.fn.seats.items) (count_weight l.drawn.count);
      seats : (vec_len l.drawn.seats ≡ vec_len l.fn.seats) × All (IsFree l.setup.shared.now) l.drawn.seats.items;
    }

abbrev pub decreases-batches : goal.decreases-batches
decreases-batches g l = vec_len l.left
