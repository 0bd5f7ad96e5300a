use Rattle.std.proofs.Common.{◌≡◌, ◌<◌, ◌+◌, ℕ}
use Rattle.fx_image.specs.Stored.{pixel_in}
use Rattle.fx_pixel.specs.Pixel.{convert}
use Rattle.fx_effect.specs.Rows.{SameBeside}
use Rattle.fx_effect.proofs.runs.turn_each.Given as goal

abbrev pub invariant-loop-i : goal.invariant-loop-i
invariant-loop-i l =
    record {
      painted : (k : ℕ) → k < l.i → pixel_in l.depth l.components l.row (l.first + k) ≡ convert l.from l.depth l.components (pixel_in l.from l.seen l.source k);
      others : SameBeside l.depth l.components l.first l.count l.fn.row l.row;
    }
