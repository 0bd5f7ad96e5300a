-- The effect shuffle: each sample is one of the pixel's samples, or 0, as it is chosen.
use Rattle.std.specs.Prelude.{ℕ, ℤ, pos, negsuc, ◌≤ℤ◌, Bool, ◌&&◌, false, List, [], ◌∷◌, codes, slice_index}
use Rattle.std.specs.Ordering.{int_eq}
use Rattle.fx_pixel.specs.declared.Depth.TheVariants as depths
use Rattle.fx_pixel.specs.declared.Components.TheVariants as components
use Rattle.fx_pixel.specs.declared.Pixel.{Pixel}
use Rattle.fx_pixel.specs.declared.Pixel.TheVariants.{Rgba, Alpha}
use Rattle.fx_params.specs.declared.def.ParamDef.{ParamDef}
use Rattle.fx_params.specs.Def.{choice_def}
use Rattle.fx_effect.specs.Shape.{Shape}
use Rattle.fx_effect.specs.Numbers.{number}
use Rattle.fx_effect.specs.Meaning.{Meaning}
use Rattle.fx_effect.specs.Source.{source_shape, point_effect}
use Rattle.fx_effect.specs.declared.action.Safety.TheVariants.{FullySafe}
use Rattle.fx_effect.specs.declared.values.Values.{Values}
use Rattle.fx_point.specs.Colours.{source_where}

abbrev pub choices : List (List ℕ)
choices = codes "r" ∷ codes "g" ∷ codes "b" ∷ codes "a" ∷ codes "zero" ∷ []

-- the place of a choice
abbrev pub IsChoice : ℤ → Type 0
IsChoice z = (pos 0 ≤ℤ z) × (z ≤ℤ pos 4)

-- what the choices stand for, in their order
abbrev pub chosen : List ℕ → ℤ → ℕ
chosen samples (pos k) = slice_index samples k
chosen samples (negsuc k) = 0

abbrev pub shuffled : ℤ → ℤ → ℤ → ℤ → Pixel → Pixel
shuffled red green blue alpha (Rgba r g b a) =
    let of = chosen (r ∷ g ∷ b ∷ a ∷ 0 ∷ []) in
    Rgba (of red) (of green) (of blue) (of alpha)
shuffled red green blue alpha (Alpha a) = Alpha a

abbrev pub shuffle_pixel : Values → Pixel → Pixel
shuffle_pixel v p = shuffled (number v 0) (number v 1) (number v 2) (number v 3) p

-- each sample is its own
abbrev pub keeps_all : Values → Bool
keeps_all v =
    int_eq (number v 0) (pos 0) && int_eq (number v 1) (pos 1) && int_eq (number v 2) (pos 2)
    && int_eq (number v 3) (pos 3)

-- each is its own at the start
abbrev pub shuffle_params : List ParamDef
shuffle_params =
    choice_def (codes "r") choices 0
    ∷ choice_def (codes "g") choices 1
    ∷ choice_def (codes "b") choices 2
    ∷ choice_def (codes "a") choices 3
    ∷ []

abbrev pub shuffle_shape : Shape
shuffle_shape =
    source_shape (codes "shuffle") (depths.Byte ∷ depths.Short ∷ []) (components.Rgba ∷ []) false FullySafe
    shuffle_params

abbrev pub shuffle : Meaning
shuffle = point_effect shuffle_shape (λ v m p. shuffle_pixel v p) (λ v window. source_where (keeps_all v) v)
