use Rattle.std.proofs.Common.{pos, ◌-ℤ◌}
use Rattle.fx_pixel.specs.Pixel.{greatest}
use Rattle.fx_kernel.specs.Sums.{AreSums}
use Rattle.fx_area.specs.BoxRows.{box_sample}
use Rattle.fx_area.proofs.boxblur.BoxRows.begin.Given as goal

abbrev pub invariant-loop-k : goal.invariant-loop-k
invariant-loop-k l = AreSums l.cells (box_sample l.self.inputs.now l.self.frame l.self.rx l.components l.fn.rect) (l.fn.y -ℤ pos l.self.ry) l.k (greatest l.depth)
