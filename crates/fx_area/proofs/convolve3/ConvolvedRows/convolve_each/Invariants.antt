use Rattle.std.proofs.Common.{◌≡◌, ◌≤◌, ◌<◌, ℕ}
use Rattle.fx_pixel.specs.Pixel.{count}
use Rattle.fx_image.specs.Stored.{sample_in}
use Rattle.fx_area.specs.ConvolveRows.{convolved_sample}
use Rattle.fx_area.proofs.convolve3.ConvolvedRows.convolve_each.Given as goal

abbrev pub invariant-loop-s : goal.invariant-loop-s
invariant-loop-s l =
    record {
      done : (k : ℕ) → k < l.s → l.first ≤ k → sample_in l.depth l.row k
          ≡ convolved_sample l.self.factors l.self.divisor l.depth (count l.fn.components) l.top l.middle l.bottom k;
      left : (k : ℕ) → k < l.first → sample_in l.depth l.row k ≡ sample_in l.depth l.fn.row k;
    }
