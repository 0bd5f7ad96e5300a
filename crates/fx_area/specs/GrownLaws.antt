-- Rectangles that are grown by radii, and the places round a place.
use Rattle.std.specs.Prelude.{◌≤◌, ◌<◌, ℕ, ◌+◌, ℤ, pos, ◌≤ℤ◌, ◌+ℤ◌, ◌-ℤ◌, List, [], ◌∷◌, length, All, unsigned_abs, negsuc}
use Rattle.std.proofs.Common.{arith}
use Rattle.std.proofs.lemmas.Int.{ints}
use Rattle.fx_base.specs.Bounds.{Bounds, IsRect}
use Rattle.fx_base.specs.Rect.{Holds, IsUpTo, grown}
use Rattle.fx_base.proofs.RectLemmas.{Holds-grown}
use Rattle.fx_base.proofs.RectLaws.{IsRect-grown, IsUpTo-grown, IsUpTo-none}
use Rattle.fx_props.specs.Entries.{region_of}
use Rattle.fx_kernel.specs.Around.{square}
use Rattle.fx_kernel.specs.AroundLaws.{All-square}
use Rattle.fx_effect.specs.Tap.{tap}
use Rattle.fx_effect.specs.Default.{default_spans}
use Rattle.fx_effect.specs.DefaultLaws.{covered_here}
use Rattle.fx_effect.specs.Laws.{IsCovered}
use Rattle.fx_effect.specs.declared.values.Values.{Values}

-- what lies at most h columns and v rows from a place of a rectangle lies in the grown one
pub in_grown : (r : Bounds) (h v : ℕ) (x y i j : ℤ) → Holds r i j → (x -ℤ pos h) ≤ℤ i → i ≤ℤ (x +ℤ pos h)
    → (y -ℤ pos v) ≤ℤ j → j ≤ℤ (y +ℤ pos v) → Holds (grown r (pos h) (pos v)) x y
in_grown r h v x y i j held left right bottom top =
    Holds-grown r (pos h) (pos v) x y
    (record { column = i; row = j; held = held; left = left; right = right; bottom = bottom; top = top })

pub grown_is_rect : (r : Bounds) (h v : ℕ) → IsRect (grown r (pos h) (pos v))
grown_is_rect r h v = IsRect-grown r (pos h) (pos v) (omega (arith, ints)) (omega (arith, ints))

pub grown_near : (n : ℕ) (r : Bounds) (h v : ℕ) → h ≤ 64 → v ≤ 64 → IsUpTo n r
    → IsUpTo (n + 32768) (grown r (pos h) (pos v))
grown_near n r h v few low near =
    IsUpTo-grown n 32768 (pos h) (pos v) r (omega (arith, ints)) (omega (arith, ints)) (omega (arith, ints))
    (omega (arith, ints)) near

pub region_up_to : (n : ℕ) (p : Bounds) (regions : List Bounds) → All (IsUpTo n) (p ∷ regions)
    → IsUpTo n (region_of regions 0)
region_up_to n p [] up_to = IsUpTo-none n
region_up_to n p (r ∷ regions) up_to = up_to 1 p (omega arith)

-- the places of a square round a place of a region are covered by the grown region
pub square_covered : (v : Values) (r : Bounds) (h k : ℕ) (x y : ℤ) → 0 < length v.connected → Holds r x y
    → All (IsCovered (length v.connected) (default_spans v) (λ clip. grown r (pos h) (pos k)))
    (square (tap 0 v.frame) h k x y)
square_covered v r h k x y flag inside =
    let g = grown r (pos h) (pos k) in
    All-square (IsCovered (length v.connected) (default_spans v) (λ clip. g)) (tap 0 v.frame) h k x y
    (λ i j a b c d. covered_here (length v.connected) 0 v g i j flag
    (in_grown r h k i j x y inside (omega (arith, ints)) (omega (arith, ints)) (omega (arith, ints))
    (omega (arith, ints))))

-- a number from 0 to n as a natural one
pub natural_few : (z : ℤ) (n : ℕ) → pos 0 ≤ℤ z → z ≤ℤ pos n → unsigned_abs z ≤ n
natural_few (pos k) n low high = omega (arith, ints)
natural_few (negsuc k) n low high = absurd (omega (arith, ints))
