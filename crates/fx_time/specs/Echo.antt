-- The effect echo: of the frames at some steps back, the greatest of each sample, which counts for less the further back
-- it is.
use Rattle.std.specs.Prelude.{◌==◌, ℕ, zero, suc, ◌+◌, ◌-◌, ◌*◌, ◌/◌, max, ℤ, pos, ◌-ℤ◌, List, [], ◌∷◌, map, length, codes, if◌then◌else◌}
use Rattle.fx_pixel.specs.declared.Components.{Components}
use Rattle.fx_pixel.specs.declared.Pixel.{Pixel}
use Rattle.fx_params.specs.declared.def.ParamDef.{ParamDef}
use Rattle.fx_params.specs.Def.{int_def}
use Rattle.fx_props.specs.Entries.{region_of}
use Rattle.fx_effect.specs.Local.{Read, own_taps}
use Rattle.fx_effect.specs.Shape.{Shape}
use Rattle.fx_effect.specs.Numbers.{number, natural}
use Rattle.fx_effect.specs.Meaning.{Meaning}
use Rattle.fx_effect.specs.declared.action.Identity.TheVariants.{Same, No}
use Rattle.fx_effect.specs.declared.action.Safety.TheVariants.{FullySafe}
use Rattle.fx_effect.specs.declared.values.Values.{Values}
use Rattle.fx_kernel.specs.Samples.{nth, each}
use Rattle.fx_time.specs.Times.{time_shape, alone, source_at}

abbrev pub echo_params : List ParamDef
echo_params = int_def (codes "count") (pos 0) (pos 8) (pos 2) ∷ int_def (codes "gap") (pos 1) (pos 8) (pos 1) ∷ []

abbrev pub echo_shape : Shape
echo_shape = time_shape (codes "echo") FullySafe echo_params

-- how many frames are read beside the current one, and how many frames a step is
abbrev pub count : Values → ℕ
count v = natural (number v 0)

abbrev pub gap : Values → ℕ
gap v = natural (number v 1)

-- the frame that is k steps back
abbrev pub back : ℤ → ℕ → ℕ → ℤ
back t gap k = t -ℤ pos (k * gap)

-- the frames that are fewer than `many` steps back, from the farthest on
abbrev pub moments : ℤ → ℕ → ℕ → List ℤ
moments t gap zero = []
moments t gap (suc k) = back t gap k ∷ moments t gap k

-- a sample that is k steps back, of n
abbrev pub weighed : ℕ → ℕ → ℕ → ℕ
weighed n k s = s * (n + 1 - k) / (n + 1)

-- the greatest of them, from the farthest pixel on: each is as many steps back as pixels follow
abbrev pub loudest : ℕ → ℕ → List Pixel → ℕ
loudest n i [] = 0
loudest n i (p ∷ pixels) = max (weighed n (length pixels) (nth p i)) (loudest n i pixels)

abbrev pub echoed : ℕ → Components → List Pixel → Pixel
echoed n c pixels = each c (λ i. loudest n i pixels)

-- what is read: the current frame too, which is no step back
abbrev pub echo_reads : Values → List Read
echo_reads v = map source_at (moments v.frame (gap v) (suc (count v)))

abbrev pub echo : Meaning
echo =
    record {
      shape = echo_shape;
      taps = λ v x y. own_taps (echo_reads v) x y;
      mix = λ v c m x y pixels. echoed (count v) c pixels;
      spans = λ v clip. map alone (moments v.frame (gap v) (suc (count v)));
      rod = λ c v regions. region_of regions 0;
      roi = λ v region clip. region;
      same = λ v window. if count v == 0 then Same 0 v.frame else No;
    }
