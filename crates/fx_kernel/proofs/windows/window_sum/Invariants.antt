use Rattle.std.proofs.Common.{◌≡◌, ◌≤◌, ◌*◌}
use Rattle.fx_kernel.specs.Window.{window, strided}
use Rattle.fx_kernel.proofs.windows.window_sum.Given as goal

abbrev pub invariant-loop-t : goal.invariant-loop-t
invariant-loop-t l =
    record {
      value : l.sum ≡ window (strided l.cells l.step l.first) l.t;
      small : l.sum ≤ l.t * 4294967296;
    }
