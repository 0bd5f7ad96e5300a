-- What holds of two clips that are read at the current frame, and of the hull of their regions.
use Rattle.std.specs.Prelude.{◌<◌, ℕ, ◌+◌, ℤ, List, [], ◌∷◌, All, refl}
use Rattle.std.specs.List.{Contains}
use Rattle.std.proofs.Common.{zero, suc, sym, subst, arith}
use Rattle.std.proofs.lemmas.Int.{ints}
use Rattle.fx_base.specs.Bounds.{Bounds, IsRect}
use Rattle.fx_base.specs.Rect.{Holds, IsUpTo}
use Rattle.fx_base.proofs.RectLaws.{IsRect-hull, IsUpTo-hull}
use Rattle.fx_base.proofs.RectLemmas.{IsWithin-hull_first, IsWithin-hull_second}
use Rattle.fx_props.specs.Entries.{region_of}
use Rattle.fx_effect.specs.Asked.{AreRegions}
use Rattle.fx_effect.specs.Default.{default_spans}
use Rattle.fx_effect.specs.DefaultLaws.{region_near, region_is_rect}
use Rattle.fx_effect.specs.Local.{Read, IsRead}
use Rattle.fx_effect.specs.Pairs.{both_regions}
use Rattle.fx_effect.specs.declared.values.Values.{Values}

abbrev pub both_reads : Values → List Read
both_reads v = (0, v.frame) ∷ (1, v.frame) ∷ []

-- a clip that is there, at the current frame
pub read_here : (clips clip : ℕ) (v : Values) → clip < clips → IsRead clips (default_spans v) (clip, v.frame)
read_here clips clip v low =
    record {
      there = low;
      span = (v.frame, v.frame);
      listed = (0, omega arith, refl);
      at_frame = (omega (arith, ints), omega (arith, ints));
    }

pub both_near : (n : ℕ) (p : Bounds) (regions : List Bounds) → All (IsUpTo n) (p ∷ regions)
    → IsUpTo (n + 32768) (both_regions regions)
both_near n p regions up_to =
    IsUpTo-hull (n + 32768) (region_of regions 0) (region_of regions 1)
    (region_near n 0 p regions up_to) (region_near n 1 p regions up_to)

pub both_rect : (v : Values) (regions : List Bounds) → AreRegions v regions → IsRect (both_regions regions)
both_rect v regions are =
    IsRect-hull (region_of regions 0) (region_of regions 1) (region_is_rect 0 v regions are)
    (region_is_rect 1 v regions are)

-- the hull has what either region has
pub both_hold_first : (regions : List Bounds) (x y : ℤ) → Holds (region_of regions 0) x y
    → Holds (both_regions regions) x y
both_hold_first regions x y held = IsWithin-hull_first (region_of regions 0) (region_of regions 1) x y held

pub both_hold_second : (regions : List Bounds) (x y : ℤ) → Holds (region_of regions 1) x y
    → Holds (both_regions regions) x y
both_hold_second regions x y held = IsWithin-hull_second (region_of regions 0) (region_of regions 1) x y held

pub both_hold : (v : Values) (regions : List Bounds) (r : Read) (x y : ℤ) → Contains (both_reads v) r
    → Holds (region_of regions r.0) x y → Holds (both_regions regions) x y
both_hold v regions r x y (zero, low, is) held =
    both_hold_first regions x y (subst (λ (k : Read). Holds (region_of regions k.0) x y) (sym is) held)
both_hold v regions r x y (suc zero, low, is) held =
    both_hold_second regions x y (subst (λ (k : Read). Holds (region_of regions k.0) x y) (sym is) held)
both_hold v regions r x y (suc (suc k), low, is) held = absurd (omega arith)
