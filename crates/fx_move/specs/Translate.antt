-- The effect translate: the source moved by dx columns and dy rows, in whole pixels and parts of them. Where a pixel
-- falls between others it is weighed of two columns, of two rows, or of both.
use Rattle.std.specs.Prelude.{ℕ, ◌+◌, ◌-◌, ◌*◌, ◌/◌, ◌==◌, ℤ, pos, negsuc, neg_ℤ, ◌+ℤ◌, ◌-ℤ◌, ◌*ℤ◌, unsigned_abs, Bool, false, ◌&&◌, List, [], ◌∷◌, map, flat_map, codes, if◌then◌else◌}
use Rattle.std.specs.Int.{int_div_euclid}
use Rattle.std.specs.Ordering.{int_eq}
use Rattle.fx_base.specs.Bounds.{Bounds}
use Rattle.fx_base.specs.Rect.{stretched}
use Rattle.fx_base.specs.Run.{int_run}
use Rattle.fx_pixel.specs.declared.Depth.TheVariants as depths
use Rattle.fx_pixel.specs.declared.Components.{Components}
use Rattle.fx_pixel.specs.declared.Components.TheVariants as components
use Rattle.fx_pixel.specs.declared.Pixel.{Pixel}
use Rattle.fx_kernel.specs.Samples.{nth, each}
use Rattle.fx_kernel.specs.Blends.{in_units}
use Rattle.fx_params.specs.declared.def.ParamDef.{ParamDef}
use Rattle.fx_params.specs.Def.{fix_def}
use Rattle.fx_props.specs.Entries.{region_of}
use Rattle.fx_effect.specs.Tap.{tap}
use Rattle.fx_effect.specs.Shape.{Shape}
use Rattle.fx_effect.specs.Numbers.{number}
use Rattle.fx_effect.specs.Meaning.{Meaning}
use Rattle.fx_effect.specs.Source.{source_shape}
use Rattle.fx_effect.specs.Default.{default_spans}
use Rattle.fx_effect.specs.declared.action.Identity.TheVariants.{Same, No}
use Rattle.fx_effect.specs.declared.action.Safety.TheVariants.{FullySafe}
use Rattle.fx_effect.specs.declared.values.Values.{Values}
use Rattle.fx_move.specs.declared.translate.Along.{Along}

-- from -16,384 to 16,384 pixels, in units of 1/65536
abbrev pub distance : List ℕ → ParamDef
distance name = fix_def name (negsuc 1073741823) (pos 1073741824) (pos 0)

abbrev pub translate_params : List ParamDef
translate_params = distance (codes "dx") ∷ distance (codes "dy") ∷ []

-- What a pixel reads along an axis, where the picture moves by d: its first column or row, counted from its own, and
-- the share of the next one, in units of 1/256.
abbrev pub along : ℤ → Along
along d =
    let first = int_div_euclid (neg_ℤ d) (pos 65536) in
    record { first = first; share = unsigned_abs (neg_ℤ d -ℤ (first *ℤ pos 65536)) / 256 }

abbrev pub across : Values → Along
across v = along (number v 0)

abbrev pub upward : Values → Along
upward v = along (number v 1)

-- the next one is read where it has a share
abbrev pub extra : Along → ℕ
extra a = if a.share == 0 then 0 else 1

abbrev pub shares : Along → List ℕ
shares a = if a.share == 0 then 256 ∷ [] else (256 - a.share) ∷ a.share ∷ []

-- what stands at n columns from a on and m rows from b on, column by column
abbrev pub places : {X : Type 0} → (ℤ → ℤ → X) → ℤ → ℕ → ℤ → ℕ → List X
places at a n b m = flat_map (λ i. map (at i) (int_run b m)) (int_run a n)

-- the share of a column times that of a row, in the same order
abbrev pub weights : Along → Along → List ℕ
weights a b = flat_map (λ s. map (λ t. s * t) (shares b)) (shares a)

-- the sum of the samples, each times its weight
abbrev pub weighted : List ℕ → List ℕ → ℕ
weighted (w ∷ ws) (s ∷ samples) = w * s + weighted ws samples
weighted ws samples = 0

abbrev pub weighed : Components → List ℕ → List Pixel → Pixel
weighed c ws pixels = each c (λ k. in_units (weighted ws (map (λ p. nth p k) pixels)))

-- what a region moves to, and what a region is moved from
abbrev pub moved_to : Along → Along → Bounds → Bounds
moved_to a b r =
    let right = neg_ℤ a.first in
    let top = neg_ℤ b.first in
    stretched r (right -ℤ pos (extra a)) (top -ℤ pos (extra b)) right top

abbrev pub moved_from : Along → Along → Bounds → Bounds
moved_from a b r = stretched r a.first b.first (a.first +ℤ pos (extra a)) (b.first +ℤ pos (extra b))

-- nothing moves
abbrev pub is_still : Along → Bool
is_still a = int_eq a.first (pos 0) && (a.share == 0)

abbrev pub translate_shape : Shape
translate_shape =
    source_shape (codes "translate") (depths.Byte ∷ depths.Short ∷ []) (components.Rgba ∷ components.Alpha ∷ []) false
    FullySafe translate_params

abbrev pub translate : Meaning
translate =
    record {
      shape = translate_shape;
      taps = λ v x y.
          let a = across v in
          let b = upward v in
          places (tap 0 v.frame) (x +ℤ a.first) (1 + extra a) (y +ℤ b.first) (1 + extra b);
      mix = λ v c m x y pixels. weighed c (weights (across v) (upward v)) pixels;
      spans = default_spans;
      rod = λ c v regions. moved_to (across v) (upward v) (region_of regions 0);
      roi = λ v region clip. moved_from (across v) (upward v) region;
      same = λ v window. if is_still (across v) && is_still (upward v) then Same 0 v.frame else No;
    }
