-- What holds of filters that read other frames.
use Rattle.std.specs.Prelude.{◌≡◌, ◌<◌, ◌==◌, ℕ, ℤ, pos, ◌≤ℤ◌, ◌+ℤ◌, ◌-ℤ◌, Bool, true, false, List, [], ◌∷◌, map, if◌then◌else◌, refl}
use Rattle.std.specs.List.{Contains}
use Rattle.std.proofs.Common.{zero, suc, ap, sym, subst, arith}
use Rattle.std.proofs.lemmas.Int.{ints}
use Rattle.std.proofs.lemmas.Bool.Decides.{nat_tests}
use Rattle.fx_base.specs.Bounds.{Bounds}
use Rattle.fx_base.specs.Rect.{Holds}
use Rattle.fx_props.specs.Entries.{region_of}
use Rattle.fx_effect.specs.Laws.{IsNearSpan}
use Rattle.fx_effect.specs.Local.{Read, IsRead}
use Rattle.fx_effect.specs.declared.action.Identity.TheVariants.{Same, No}
use Rattle.fx_time.specs.Times.{source_at, alone}

-- ---- Source

-- what is read is Source
pub is_source : (frames : List ℤ) (r : Read) → Contains (map source_at frames) r → r.0 ≡ 0
is_source [] r (k, low, is) = absurd (omega arith)
is_source (t ∷ frames) r (zero, low, is) = ap (λ (a : Read). a.0) (sym is)
is_source (t ∷ frames) r (suc k, low, is) = is_source frames r (k, omega (arith, low), is)

-- the region of Source has what it has
pub source_holds : (frames : List ℤ) (regions : List Bounds) (r : Read) (x y : ℤ) → Contains (map source_at frames) r
    → Holds (region_of regions r.0) x y → Holds (region_of regions 0) x y
source_holds frames regions r x y there held =
    subst (λ k. Holds (region_of regions k) x y) (is_source frames r there) held

-- Source at a frame that is a span of its own
pub read_alone : (clips : ℕ) (spans : ℕ → List (ℤ × ℤ)) (t : ℤ) → 0 < clips → Contains (spans 0) (alone t)
    → IsRead clips spans (source_at t)
read_alone clips spans t some listed =
    record { there = some; span = alone t; listed = listed; at_frame = (omega (arith, ints), omega (arith, ints)) }

-- ---- frames

pub near_alone : (t f : ℤ) → (t -ℤ pos 100000) ≤ℤ f → f ≤ℤ (t +ℤ pos 100000) → IsNearSpan t (alone f)
near_alone t f low high = record { first_after = low; first_before = high; last_after = low; last_before = high }

-- ---- identities at 0

same_number : (k n : ℕ) → (k == n) ≡ true → k ≡ n
same_number k n h = grind (arith, nat_tests)

pub same_at_zero : (k : ℕ) (t : ℤ) (clip : ℕ) (frame : ℤ) → (if k == 0 then Same 0 t else No) ≡ Same clip frame
    → (k ≡ 0) × (clip ≡ 0) × (frame ≡ t)
same_at_zero k t clip frame = go (k == 0) refl
  where
    go : (b : Bool) → (k == 0) ≡ b → (if b then Same 0 t else No) ≡ Same clip frame → (k ≡ 0) × (clip ≡ 0) × (frame ≡ t)
    go true is e = (same_number k 0 is, cc, cc)
    go false is e = absurd cc
