-- The effect convolve3: each sample is the sum of the nine at most one column and one row away, each times a number of
-- its own, divided by a divisor, to the nearest and halves up, and brought into the samples' range.
use Rattle.std.specs.Prelude.{ℕ, ◌*◌, ℤ, pos, negsuc, ◌+ℤ◌, ◌-ℤ◌, ◌*ℤ◌, unsigned_abs, Bool, false, ◌&&◌, List, [], ◌∷◌, map, flat_map, codes, if◌then◌else◌}
use Rattle.std.specs.List.{list_all}
use Rattle.std.specs.Int.{int_div_euclid}
use Rattle.std.specs.Ordering.{int_eq}
use Rattle.fx_base.specs.Rect.{grown}
use Rattle.fx_pixel.specs.declared.Depth.TheVariants as depths
use Rattle.fx_pixel.specs.declared.Components.{Components}
use Rattle.fx_pixel.specs.declared.Components.TheVariants as components
use Rattle.fx_pixel.specs.declared.Pixel.{Pixel}
use Rattle.fx_kernel.specs.Samples.{nth, each, clamped}
use Rattle.fx_kernel.specs.Around.{around}
use Rattle.fx_params.specs.declared.def.ParamDef.{ParamDef}
use Rattle.fx_params.specs.Def.{int_def}
use Rattle.fx_props.specs.Entries.{region_of}
use Rattle.fx_effect.specs.Tap.{tap}
use Rattle.fx_effect.specs.Shape.{Shape}
use Rattle.fx_effect.specs.Numbers.{number}
use Rattle.fx_effect.specs.Meaning.{Meaning}
use Rattle.fx_effect.specs.Source.{source_shape}
use Rattle.fx_effect.specs.Default.{default_spans}
use Rattle.fx_effect.specs.declared.action.Identity.TheVariants.{Same, No}
use Rattle.fx_effect.specs.declared.action.Safety.TheVariants.{FullySafe}
use Rattle.fx_effect.specs.declared.values.Values.{Values}

-- a number from -256 to 256
abbrev pub factor : List ℕ → ℤ → ParamDef
factor name start = int_def name (negsuc 255) (pos 256) start

abbrev pub divisor_param : ParamDef
divisor_param = int_def (codes "divisor") (pos 1) (pos 65536) (pos 1)

-- k1 to k9 and the divisor; at the start it is its source
abbrev pub convolve_params : List ParamDef
convolve_params =
    factor (codes "k1") (pos 0)
    ∷ factor (codes "k2") (pos 0)
    ∷ factor (codes "k3") (pos 0)
    ∷ factor (codes "k4") (pos 0)
    ∷ factor (codes "k5") (pos 1)
    ∷ factor (codes "k6") (pos 0)
    ∷ factor (codes "k7") (pos 0)
    ∷ factor (codes "k8") (pos 0)
    ∷ factor (codes "k9") (pos 0)
    ∷ divisor_param
    ∷ []

abbrev pub factors : Values → List ℤ
factors v =
    let n = number v in
    n 0 ∷ n 1 ∷ n 2 ∷ n 3 ∷ n 4 ∷ n 5 ∷ n 6 ∷ n 7 ∷ n 8 ∷ []

abbrev pub divisor : Values → ℕ
divisor v = unsigned_abs (number v 9)

-- what stands at the nine places, by rows from the top, each from the left
abbrev pub nine : {X : Type 0} → (ℤ → ℤ → X) → ℤ → ℤ → List X
nine at x y = flat_map (λ j. map (λ i. at i j) (around x 1)) ((y +ℤ pos 1) ∷ y ∷ (y -ℤ pos 1) ∷ [])

-- the sum of the samples, each times its number
abbrev pub sum_of_products : List ℤ → List ℕ → ℤ
sum_of_products (k ∷ ks) (s ∷ samples) = (k *ℤ pos s) +ℤ sum_of_products ks samples
sum_of_products ks samples = pos 0

-- p / q to the nearest, halves up (`int_div_euclid` by a positive number is the floor)
abbrev pub rounded_z : ℤ → ℕ → ℤ
rounded_z p q = int_div_euclid ((pos 2 *ℤ p) +ℤ pos q) (pos (2 * q))

abbrev pub convolved : Components → ℕ → List ℤ → ℕ → List Pixel → Pixel
convolved c m ks q pixels =
    each c (λ k. clamped m (rounded_z (sum_of_products ks (map (λ p. nth p k) pixels)) q))

-- the middle number is the divisor, and the others are 0
abbrev pub keeps_source : Values → Bool
keeps_source v =
    int_eq (number v 4) (number v 9)
    && list_all (λ n. int_eq n (pos 0))
    (number v 0 ∷ number v 1 ∷ number v 2 ∷ number v 3 ∷ number v 5 ∷ number v 6 ∷ number v 7 ∷ number v 8 ∷ [])

abbrev pub convolve_shape : Shape
convolve_shape =
    source_shape (codes "convolve3") (depths.Byte ∷ depths.Short ∷ []) (components.Rgba ∷ components.Alpha ∷ []) false
    FullySafe convolve_params

abbrev pub convolve3 : Meaning
convolve3 =
    record {
      shape = convolve_shape;
      taps = λ v x y. nine (tap 0 v.frame) x y;
      mix = λ v c m x y pixels. convolved c m (factors v) (divisor v) pixels;
      spans = default_spans;
      rod = λ c v regions. grown (region_of regions 0) (pos 1) (pos 1);
      roi = λ v region clip. grown region (pos 1) (pos 1);
      same = λ v window. if keeps_source v then Same 0 v.frame else No;
    }
