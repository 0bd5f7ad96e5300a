use Rattle.std.proofs.Common.{◌≡◌}
use Rattle.fx_image.proofs.RowsCut.{CutSoFar}
use Rattle.fx_image.proofs.rows.Rows.into_bands.Given as goal

abbrev pub invariant-loop-block : goal.invariant-loop-block
invariant-loop-block l =
    record {
      pitch_is : l.pitch ≡ l.fn.self.pitch;
      step_is : l.step ≡ l.fn.self.step;
      cut : CutSoFar l.fn.self l.bands.items l.block-iterator.rest.items l.left;
    }
