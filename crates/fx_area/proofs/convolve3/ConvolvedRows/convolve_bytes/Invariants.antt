use Rattle.std.proofs.Common.{◌≡◌, ◌<◌, ◌*◌, ℕ, slice_index}
use Rattle.fx_pixel.specs.declared.Depth.TheVariants.{Byte}
use Rattle.fx_pixel.specs.Pixel.{count}
use Rattle.fx_area.specs.ConvolveRows.{convolved_sample}
use Rattle.fx_area.proofs.convolve3.ConvolvedRows.convolve_bytes.Given as goal

abbrev pub invariant-loop-block : goal.invariant-loop-block
invariant-loop-block l =
    (k : ℕ) → k < 16 * l.block → slice_index l.row k
    ≡ convolved_sample l.self.factors l.self.divisor Byte (count l.fn.components) l.top l.middle l.bottom k
