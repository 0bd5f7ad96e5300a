-- The effect keymix: A where the mask is opaque, B where it is clear, and between them the mean that it weighs.
use Rattle.std.specs.Prelude.{ℕ, Bool, true, false, List, [], ◌∷◌, codes, slice_index_or, if◌then◌else◌}
use Rattle.fx_pixel.specs.declared.Components.{Components}
use Rattle.fx_pixel.specs.declared.Pixel.{Pixel}
use Rattle.fx_pixel.specs.Pixel.{zero as clear, components_of}
use Rattle.fx_effect.specs.Tap.{tap}
use Rattle.fx_effect.specs.Shape.{Clip, Shape}
use Rattle.fx_effect.specs.Meaning.{Meaning}
use Rattle.fx_effect.specs.Default.{default_spans}
use Rattle.fx_effect.specs.declared.action.Identity.TheVariants.{Same, No}
use Rattle.fx_effect.specs.declared.values.Values.{Values}
use Rattle.fx_kernel.specs.Samples.{nth, each}
use Rattle.fx_kernel.specs.Blends.{mixed}
use Rattle.fx_effect.specs.Pairs.{both_regions}
use Rattle.fx_merge.specs.Merges.{required, merges_shape}

-- the mask may be left unconnected
abbrev pub keymix_clips : List Clip
keymix_clips = required (codes "A") ∷ required (codes "B") ∷ record { name = codes "Mask"; optional = true } ∷ []

abbrev pub keymix_shape : Shape
keymix_shape = merges_shape (codes "keymix") keymix_clips []

abbrev pub has_mask : Values → Bool
has_mask v = slice_index_or v.connected 2 false

-- a pixel of A and one of B, mixed by the a of the mask's
abbrev pub keyed : ℕ → Pixel → Pixel → Pixel → Pixel
keyed m p q mask = each (components_of p) (λ k. mixed m (nth mask 3) (nth p k) (nth q k))

-- what is made of the pixels that were read, of which there are three; without a mask it is A's
abbrev pub keymix_of : Bool → ℕ → Components → List Pixel → Pixel
keymix_of masked m c (p ∷ (q ∷ (mask ∷ pixels))) = if masked then keyed m p q mask else p
keymix_of masked m c pixels = clear c

abbrev pub keymix : Meaning
keymix =
    record {
      shape = keymix_shape;
      taps = λ v x y. tap 0 v.frame x y ∷ tap 1 v.frame x y ∷ tap 2 v.frame x y ∷ [];
      mix = λ v c m x y pixels. keymix_of (has_mask v) m c pixels;
      spans = default_spans;
      rod = λ c v regions. both_regions regions;
      roi = λ v region clip. region;
      same = λ v window. if has_mask v then No else Same 0 v.frame;
    }
