-- The rows of a render of convolve3.
use Rattle.std.specs.Prelude.{◌≤◌, ◌<◌, ℕ, ◌+◌, ◌*◌, ℤ, pos, ◌+ℤ◌, ◌*ℤ◌, List}
use Rattle.fx_base.specs.Bounds.{Bounds}
use Rattle.fx_base.specs.Rect.{columns, IsStep}
use Rattle.fx_pixel.specs.declared.Depth.{Depth}
use Rattle.fx_pixel.specs.declared.Components.{Components}
use Rattle.fx_pixel.specs.Pixel.{greatest}
use Rattle.fx_image.specs.Stored.{pixel_size, sample_in}
use Rattle.fx_effect.specs.Numbers.{number}
use Rattle.fx_effect.specs.declared.values.Values.{Values}
use Rattle.fx_area.specs.declared.convolve3.Triple.{Triple}
use Rattle.fx_area.specs.declared.convolve3.Factors.{Factors}
use Rattle.fx_area.specs.Convolve3.{rounded_z}
use Rattle.fx_kernel.specs.Samples.{clamped}

-- three numbers, from this one on
abbrev pub triple_of : Values → ℕ → Triple
triple_of v first = record { left = number v first; middle = number v (first + 1); right = number v (first + 2) }

-- the nine, by rows from the top
abbrev pub factors_of : Values → Factors
factors_of v = record { top = triple_of v 0; middle = triple_of v 3; bottom = triple_of v 6 }

pub record IsTriple (t : Triple) : Type 0 where
  pub left : IsStep 256 t.left
  pub middle : IsStep 256 t.middle
  pub right : IsStep 256 t.right

pub record AreFactors (f : Factors) : Type 0 where
  pub top : IsTriple f.top
  pub middle : IsTriple f.middle
  pub bottom : IsTriple f.bottom

pub record IsDivisor (q : ℕ) : Type 0 where
  pub some : 0 < q
  pub few : q ≤ 65536

-- the sum of sample s and of those one and two pixels behind it, each times its number
abbrev pub triple_sum : Triple → Depth → ℕ → List ℕ → ℕ → ℤ
triple_sum t depth step line s =
    ((t.left *ℤ pos (sample_in depth line s)) +ℤ (t.middle *ℤ pos (sample_in depth line (s + step))))
    +ℤ (t.right *ℤ pos (sample_in depth line (s + 2 * step)))

-- the same of three lines
abbrev pub nine_sum : Factors → Depth → ℕ → List ℕ → List ℕ → List ℕ → ℕ → ℤ
nine_sum f depth step top middle bottom s =
    (triple_sum f.top depth step top s +ℤ triple_sum f.middle depth step middle s)
    +ℤ triple_sum f.bottom depth step bottom s

-- sample s of the row
abbrev pub convolved_sample : Factors → ℕ → Depth → ℕ → List ℕ → List ℕ → List ℕ → ℕ → ℕ
convolved_sample f q depth step top middle bottom s =
    clamped (greatest depth) (rounded_z (nine_sum f depth step top middle bottom s) q)

-- how many bytes a line has: a pixel more than the row on either side
abbrev pub line_size : Depth → Components → Bounds → ℕ
line_size depth c rect = (columns rect + 2) * pixel_size depth c
