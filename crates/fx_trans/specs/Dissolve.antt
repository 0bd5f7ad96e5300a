-- The effect dissolve: each sample goes from SourceFrom's to SourceTo's by the level.
use Rattle.std.specs.Prelude.{ℕ, List, [], ◌∷◌, codes}
use Rattle.fx_pixel.specs.declared.Components.{Components}
use Rattle.fx_pixel.specs.declared.Pixel.{Pixel}
use Rattle.fx_pixel.specs.Pixel.{zero as clear}
use Rattle.fx_effect.specs.Shape.{Shape}
use Rattle.fx_effect.specs.Meaning.{Meaning}
use Rattle.fx_effect.specs.Default.{default_spans}
use Rattle.fx_effect.specs.declared.action.Identity.TheVariants.{No}
use Rattle.fx_kernel.specs.Samples.{nth, each}
use Rattle.fx_kernel.specs.Blends.{blended}
use Rattle.fx_effect.specs.Pairs.{both_regions}
use Rattle.fx_trans.specs.Transitions.{transition_shape, level, both_taps, at_ends}

abbrev pub dissolved : ℕ → Components → Pixel → Pixel → Pixel
dissolved k c p q = each c (λ i. blended k (nth p i) (nth q i))

-- what is made of the pixels that were read, of which there are two
abbrev pub dissolve_of : ℕ → Components → List Pixel → Pixel
dissolve_of k c (p ∷ (q ∷ pixels)) = dissolved k c p q
dissolve_of k c pixels = clear c

abbrev pub dissolve_shape : Shape
dissolve_shape = transition_shape (codes "dissolve")

abbrev pub dissolve : Meaning
dissolve =
    record {
      shape = dissolve_shape;
      taps = both_taps;
      mix = λ v c m x y pixels. dissolve_of (level v) c pixels;
      spans = default_spans;
      rod = λ c v regions. both_regions regions;
      roi = λ v region clip. region;
      same = λ v window. at_ends (level v) v.frame No;
    }
