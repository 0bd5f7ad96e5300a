-- The effect merge: each sample, a too, is made of the samples of A and B by an operation.
use Rattle.std.specs.Prelude.{◌==◌, ℕ, ◌+◌, ◌-◌, min, max, ℤ, pos, negsuc, List, [], ◌∷◌, codes, if◌then◌else◌}
use Rattle.fx_pixel.specs.declared.Components.{Components}
use Rattle.fx_pixel.specs.declared.Pixel.{Pixel}
use Rattle.fx_pixel.specs.Pixel.{zero as clear, components_of}
use Rattle.fx_params.specs.declared.def.ParamDef.{ParamDef}
use Rattle.fx_params.specs.Def.{choice_def}
use Rattle.fx_effect.specs.Tap.{tap}
use Rattle.fx_effect.specs.Shape.{Shape}
use Rattle.fx_effect.specs.Numbers.{number}
use Rattle.fx_effect.specs.Meaning.{Meaning}
use Rattle.fx_effect.specs.Default.{default_spans}
use Rattle.fx_effect.specs.declared.action.Identity.TheVariants.{No}
use Rattle.fx_kernel.specs.Samples.{nth, each}
use Rattle.fx_kernel.specs.Blends.{product}
use Rattle.fx_merge.specs.declared.operation.Operation.{Operation}
use Rattle.fx_merge.specs.declared.operation.Operation.TheVariants.{Over, Plus, Multiply, Screen, Min, Max, Minus}
use Rattle.fx_effect.specs.Pairs.{both_regions}
use Rattle.fx_merge.specs.Merges.{required, merges_shape}

-- a sample of A and one of B, where m is the greatest and alpha the a of A's pixel
abbrev pub operated : Operation → ℕ → ℕ → ℕ → ℕ → ℕ
operated Over m alpha a b = min m (a + product m b (m - alpha))
operated Plus m alpha a b = min m (a + b)
operated Multiply m alpha a b = product m a b
operated Screen m alpha a b = a + b - product m a b
operated Min m alpha a b = min a b
operated Max m alpha a b = max a b
operated Minus m alpha a b = a - b

-- a pixel of A and one of B
abbrev pub merged : Operation → ℕ → Pixel → Pixel → Pixel
merged operation m p q = each (components_of p) (λ k. operated operation m (nth p 3) (nth p k) (nth q k))

-- the operations, in the order of their choices
abbrev pub operation_at : ℤ → Operation
operation_at (negsuc n) = Over
operation_at (pos n) =
    if n == 0
    then Over
    else (if n == 1
    then Plus
    else (if n == 2
    then Multiply
    else (if n == 3 then Screen else (if n == 4 then Min else (if n == 5 then Max else Minus)))))

abbrev pub choices : List (List ℕ)
choices =
    codes "over"
    ∷ codes "plus"
    ∷ codes "multiply"
    ∷ codes "screen"
    ∷ codes "min"
    ∷ codes "max"
    ∷ codes "minus"
    ∷ []

abbrev pub merge_params : List ParamDef
merge_params = choice_def (codes "operation") choices 0 ∷ []

abbrev pub merge_shape : Shape
merge_shape = merges_shape (codes "merge") (required (codes "A") ∷ required (codes "B") ∷ []) merge_params

-- what is made of the pixels that were read, of which there are two
abbrev pub merge_of : Operation → ℕ → Components → List Pixel → Pixel
merge_of operation m c (p ∷ (q ∷ pixels)) = merged operation m p q
merge_of operation m c pixels = clear c

abbrev pub merge : Meaning
merge =
    record {
      shape = merge_shape;
      taps = λ v x y. tap 0 v.frame x y ∷ tap 1 v.frame x y ∷ [];
      mix = λ v c m x y pixels. merge_of (operation_at (number v 0)) m c pixels;
      spans = default_spans;
      rod = λ c v regions. both_regions regions;
      roi = λ v region clip. region;
      same = λ v window. No;
    }
