-- The effect wipe: SourceTo on the left of an edge that moves over the project's extent, SourceFrom on its right.
use Rattle.std.specs.Prelude.{◌==◌, ℕ, ◌*◌, ◌/◌, ℤ, pos, Bool, true, false, List, [], ◌∷◌, codes, if◌then◌else◌}
use Rattle.std.specs.Int.Signed.{le_z, lt_z}
use Rattle.fx_base.specs.Bounds.{Bounds}
use Rattle.fx_pixel.specs.declared.Components.{Components}
use Rattle.fx_pixel.specs.declared.Pixel.{Pixel}
use Rattle.fx_pixel.specs.Pixel.{zero as clear}
use Rattle.fx_effect.specs.Shape.{Shape}
use Rattle.fx_effect.specs.Meaning.{Meaning}
use Rattle.fx_effect.specs.Default.{default_spans}
use Rattle.fx_effect.specs.declared.action.Identity.{Identity}
use Rattle.fx_effect.specs.declared.action.Identity.TheVariants.{Same, No}
use Rattle.fx_effect.specs.declared.values.Values.{Values}
use Rattle.fx_effect.specs.Numbers.{natural}
use Rattle.fx_effect.specs.Pairs.{both_regions}
use Rattle.fx_trans.specs.Transitions.{transition_shape, level, both_taps, at_ends}

-- the level times the project's width
abbrev pub edge : Values → ℤ
edge v = pos (level v * natural v.project.x2 / 65536)

-- whether a column shows SourceTo: at the ends no column and every column, also beside the project's extent
abbrev pub shows_to : ℕ → ℤ → ℤ → Bool
shows_to k e x = if k == 0 then false else (if k == 65536 then true else lt_z x e)

abbrev pub wiped : ℕ → ℤ → ℤ → Pixel → Pixel → Pixel
wiped k e x p q = if shows_to k e x then q else p

-- what is made of the pixels that were read, of which there are two
abbrev pub wipe_of : ℕ → ℤ → ℤ → Components → List Pixel → Pixel
wipe_of k e x c (p ∷ (q ∷ pixels)) = wiped k e x p q
wipe_of k e x c pixels = clear c

-- the clip that a window on one side of the edge shows
abbrev pub side_of : ℤ → ℤ → Bounds → Identity
side_of e t window =
    if le_z window.x2 e then Same 1 t else (if le_z e window.x1 then Same 0 t else No)

abbrev pub wipe_shape : Shape
wipe_shape = transition_shape (codes "wipe")

abbrev pub wipe : Meaning
wipe =
    record {
      shape = wipe_shape;
      taps = both_taps;
      mix = λ v c m x y pixels. wipe_of (level v) (edge v) x c pixels;
      spans = default_spans;
      rod = λ c v regions. both_regions regions;
      roi = λ v region clip. region;
      same = λ v window. at_ends (level v) v.frame (side_of (edge v) v.frame window);
    }
