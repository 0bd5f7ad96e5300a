use Rattle.std.proofs.Common.{◌≡◌, ◌<◌, ℕ}
use Rattle.fx_pixel.specs.Pixel.{count}
use Rattle.fx_image.specs.Stored.{sample_in}
use Rattle.fx_move.specs.TranslateRows.{weighed_sample}
use Rattle.fx_move.proofs.translate.weigh_each.Given as goal

abbrev pub invariant-loop-s : goal.invariant-loop-s
invariant-loop-s l = (k : ℕ) → k < l.s → sample_in l.depth l.row k ≡ weighed_sample l.depth (count l.fn.components) l.weights l.low l.high k
