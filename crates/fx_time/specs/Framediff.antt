-- The effect framediff: how far two frames of Source are apart, sample by sample. Of RGBA the a is the greater one.
use Rattle.std.specs.Prelude.{ℕ, ◌-◌, min, max, ℤ, pos, ◌-ℤ◌, List, [], ◌∷◌, codes}
use Rattle.fx_pixel.specs.declared.Components.{Components}
use Rattle.fx_pixel.specs.declared.Pixel.{Pixel}
use Rattle.fx_pixel.specs.declared.Pixel.TheVariants.{Rgba, Alpha}
use Rattle.fx_pixel.specs.Pixel.{zero as clear}
use Rattle.fx_params.specs.declared.def.ParamDef.{ParamDef}
use Rattle.fx_params.specs.Def.{int_def}
use Rattle.fx_props.specs.Entries.{region_of}
use Rattle.fx_effect.specs.Tap.{tap}
use Rattle.fx_effect.specs.Shape.{Shape}
use Rattle.fx_effect.specs.Numbers.{number}
use Rattle.fx_effect.specs.Meaning.{Meaning}
use Rattle.fx_effect.specs.declared.action.Identity.TheVariants.{No}
use Rattle.fx_effect.specs.declared.action.Safety.TheVariants.{FullySafe}
use Rattle.fx_effect.specs.declared.values.Values.{Values}
use Rattle.fx_time.specs.Times.{time_shape, alone}

abbrev pub framediff_params : List ParamDef
framediff_params = int_def (codes "gap") (pos 1) (pos 16) (pos 1) ∷ []

abbrev pub framediff_shape : Shape
framediff_shape = time_shape (codes "framediff") FullySafe framediff_params

-- the earlier frame
abbrev pub earlier : Values → ℤ
earlier v = v.frame -ℤ number v 0

-- the greater less the smaller
abbrev pub apart : ℕ → ℕ → ℕ
apart a b = max a b - min a b

abbrev pub differed : Pixel → Pixel → Pixel
differed (Rgba r g b a) (Rgba r' g' b' a') = Rgba (apart r r') (apart g g') (apart b b') (max a a')
differed (Alpha a) (Alpha a') = Alpha (apart a a')
differed p q = p

-- what is made of the pixels that were read, of which there are two
abbrev pub framediff_of : Components → List Pixel → Pixel
framediff_of c (p ∷ (q ∷ pixels)) = differed p q
framediff_of c pixels = clear c

abbrev pub framediff : Meaning
framediff =
    record {
      shape = framediff_shape;
      taps = λ v x y. tap 0 (earlier v) x y ∷ tap 0 v.frame x y ∷ [];
      mix = λ v c m x y pixels. framediff_of c pixels;
      spans = λ v clip. alone (earlier v) ∷ alone v.frame ∷ [];
      rod = λ c v regions. region_of regions 0;
      roi = λ v region clip. region;
      same = λ v window. No;
    }
