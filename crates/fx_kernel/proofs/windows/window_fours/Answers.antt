use Rattle.std.proofs.Common.{◌+◌, ◌*◌, arith, length, slice_index, ◌∙◌, ◌≤◌}
use Rattle.fx_kernel.proofs.FourLaws.{gained_long, gained_at}
use Rattle.fx_kernel.proofs.WindowLaws.{sum_more, sum_fits}
use Rattle.fx_kernel.proofs.windows.window_fours.Goals as goal

pub loop-t-preserved : goal.loop-t-preserved
loop-t-preserved c =
    let cells = c.args.cells.now in
    let sums = c.loop-t.sums in
    let t = c.loop-t.t in
    let inv = c.loop-t.invariant in
    let room : 4 * t + 4 ≤ length cells = omega (arith, c.requires.room, c.loop-t-test.true) in
    record {
      len = gained_long sums cells (4 * t) inv.len room;
      value = λ k low.
          gained_at sums cells (4 * t) inv.len room k (k + 4 * t) low (omega arith) (sum_fits cells 4 k t (slice_index sums k) (inv.value k low) (omega (arith, c.requires.few, c.loop-t-test.true)) c.requires.small)
          ∙ sum_more cells 4 k t (slice_index sums k) (inv.value k low);
    }
