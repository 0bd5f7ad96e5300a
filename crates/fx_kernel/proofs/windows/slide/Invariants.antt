use Rattle.std.proofs.Common.{◌≡◌, ◌≢◌, ◌<◌, ◌+◌, ◌*◌, ℕ}
use Rattle.fx_image.specs.Stored.{sample_in}
use Rattle.fx_kernel.specs.Samples.{rounded}
use Rattle.fx_kernel.specs.Window.{window, strided}
use Rattle.fx_kernel.proofs.windows.slide.Given as goal

abbrev pub invariant-loop-i : goal.invariant-loop-i
invariant-loop-i l =
    record {
      value : l.sum ≡ window (strided l.cells l.step (l.first + l.step * l.i)) l.more;
      done : (k : ℕ) → k < l.i → sample_in l.depth l.row (l.first + l.step * k) ≡ rounded (window (strided l.cells l.step (l.first + l.step * k)) (l.more + 1)) l.mean;
      others : (s : ℕ) → ((i : ℕ) → s ≢ l.first + l.step * i) → sample_in l.depth l.row s ≡ sample_in l.depth l.fn.row s;
    }
