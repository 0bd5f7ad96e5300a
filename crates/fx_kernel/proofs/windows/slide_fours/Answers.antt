use Rattle.std.proofs.Common.{◌≤◌, ◌+◌, ◌*◌, length, ap, ◌∙◌, arith}
use Rattle.fx_kernel.specs.Samples.{rounded}
use Rattle.fx_kernel.specs.Window.{window, strided}
use Rattle.fx_kernel.proofs.FourLaws.{windows_wider, windows_long, windows_next, pixels_next}
use Rattle.fx_kernel.proofs.windows.slide_fours.Goals as goal

pub bytes-requires-clause-sums : goal.bytes-requires-clause-sums
bytes-requires-clause-sums c k low =
    let inv = c.loop-i.invariant in
    let wider = windows_wider c.args.cells.now c.loop-i.sums c.loop-i.i c.args.count c.args.more inv.len inv.value c.loop-i-test.true c.requires.cells c.requires.few c.requires.small k low in
    rw wider (c.requires.bound c.loop-i.i k c.loop-i-test.true low)

pub loop-i-preserved : goal.loop-i-preserved
loop-i-preserved c =
    let inv = c.loop-i.invariant in
    let mean = c.args.mean in
    let room : 4 * c.loop-i.i + 4 ≤ length c.loop-i.row = omega (arith, c.loop-i.auto.row, c.requires.long, c.loop-i-test.true) in
    record {
      len = windows_long c.args.cells.now c.loop-i.sums c.loop-i.i c.args.count c.args.more inv.len inv.value c.loop-i-test.true c.requires.cells c.requires.few c.requires.small;
      value = windows_next c.args.cells.now c.loop-i.sums c.loop-i.i c.args.count c.args.more inv.len inv.value c.loop-i-test.true c.requires.cells c.requires.few c.requires.small;
      done = pixels_next (λ s. rounded (window (strided c.args.cells.now 4 s) (c.args.more + 1)) mean) c.loop-i.row c.bytes.result c.loop-i.i c.bytes.ensures.len room inv.done
          (λ k low. c.bytes.ensures.value k low ∙ ap (λ w. rounded w mean) (windows_wider c.args.cells.now c.loop-i.sums c.loop-i.i c.args.count c.args.more inv.len inv.value c.loop-i-test.true c.requires.cells c.requires.few c.requires.small k low));
    }
