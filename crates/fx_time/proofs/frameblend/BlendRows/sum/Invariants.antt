use Rattle.std.proofs.Common.{pos, ◌-ℤ◌}
use Rattle.fx_pixel.specs.Pixel.{greatest}
use Rattle.fx_kernel.specs.Sums.{AreSums}
use Rattle.fx_time.specs.BlendRows.{moment_sample}
use Rattle.fx_time.proofs.frameblend.BlendRows.sum.Given as goal

abbrev pub invariant-loop-k : goal.invariant-loop-k
invariant-loop-k l = AreSums l.cells (moment_sample l.self.inputs.now l.fn.components l.fn.rect l.fn.y) (l.self.frame -ℤ pos l.self.radius) l.k (greatest l.depth)
