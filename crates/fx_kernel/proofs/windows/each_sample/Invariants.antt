use Rattle.std.proofs.Common.{◌≡◌, ◌<◌, ◌+◌, ◌*◌, ℕ}
use Rattle.fx_image.specs.Stored.{sample_in}
use Rattle.fx_kernel.specs.Samples.{rounded}
use Rattle.fx_kernel.specs.Window.{window, strided}
use Rattle.fx_kernel.proofs.windows.each_sample.Given as goal

abbrev pub invariant-loop-first : goal.invariant-loop-first
invariant-loop-first l = (i k : ℕ) → i < l.windows.count → k < l.first → sample_in l.depth l.row (k + l.windows.step * i) ≡ rounded (window (strided l.cells l.windows.step (k + l.windows.step * i)) (l.windows.more + 1)) l.mean
