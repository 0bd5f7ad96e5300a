-- Laws of answers that many effects give: the frame and the region that were asked for, and the region of an input
-- clip.
use Rattle.std.specs.Prelude.{◌≡◌, ℕ, ◌+◌, ◌<◌, ℤ, Bool, false, List, [], ◌∷◌, length, All, refl}
use Rattle.std.specs.List.{AllZip}
use Rattle.std.proofs.Common.{zero, suc, inl, arith}
use Rattle.std.proofs.lemmas.Int.{ints}
use Rattle.std.proofs.lemmas.List.Elements.{All-nil, All-cons, All-head}
use Rattle.std.proofs.lemmas.Slice.Zip.{AllZip-long}
use Rattle.fx_base.specs.Bounds.{Bounds, IsRect, none}
use Rattle.fx_base.proofs.RectLaws.{IsUpTo-more, IsUpTo-none}
use Rattle.fx_base.specs.Rect.{Holds, IsUpTo}
use Rattle.fx_effect.specs.Tap.{tap}
use Rattle.fx_effect.specs.Shape.{Clip, MayBe}
use Rattle.fx_effect.specs.Default.{default_spans}
use Rattle.fx_props.specs.Entries.{region_of}
use Rattle.fx_effect.specs.Asked.{IsWindow, AreRegions}
use Rattle.fx_effect.specs.Laws.{IsCovered, IsNearSpan}
use Rattle.fx_effect.specs.declared.values.Values.{Values}

-- the current frame is near itself
pub default_spans_near : (v : Values) (clip : ℕ) → All (IsNearSpan v.frame) (default_spans v clip)
default_spans_near v clip =
    All-cons (IsNearSpan v.frame) (v.frame, v.frame) []
    (record {
      first_after = omega (arith, ints);
      first_before = omega (arith, ints);
      last_after = omega (arith, ints);
      last_before = omega (arith, ints);
    })
    (All-nil (IsNearSpan v.frame))

-- the tap at the same place of the current frame, where the region that is asked for is the one of interest
pub covered_here : (clips clip : ℕ) (v : Values) (r : Bounds) (x y : ℤ) → clip < clips → Holds r x y
    → IsCovered clips (default_spans v) (λ _. r) (tap clip v.frame x y)
covered_here clips clip v r x y low inside =
    record {
      clip = low;
      span = (v.frame, v.frame);
      listed = (0, omega arith, refl);
      at_frame = (omega (arith, ints), omega (arith, ints));
      in_region = inside;
    }

-- there is a flag for each input clip
pub flag_for_each : (clips : List Clip) (connected : List Bool) → AllZip MayBe clips connected
    → length connected ≡ length clips
flag_for_each clips connected may = AllZip-long MayBe clips connected may

-- ---- rectangles that reach no further

-- the first of the rectangles that were handed in, and the second
pub first_near : (n : ℕ) (r : Bounds) (others : List Bounds) → All (IsUpTo n) (r ∷ others) → IsUpTo (n + 32768) r
first_near n r others up_to = IsUpTo-more n (n + 32768) r (omega arith) (All-head (IsUpTo n) r others up_to)

pub second_near : (n : ℕ) (p r : Bounds) → All (IsUpTo n) (p ∷ r ∷ []) → IsUpTo (n + 32768) r
second_near n p r up_to = IsUpTo-more n (n + 32768) r (omega arith) (up_to 1 p (omega arith))

-- ---- the region of a clip

-- it is no further than the rectangles that were handed in
pub region_near : (n clip : ℕ) (p : Bounds) (regions : List Bounds) → All (IsUpTo n) (p ∷ regions)
    → IsUpTo (n + 32768) (region_of regions clip)
region_near n clip p [] up_to = IsUpTo-none (n + 32768)
region_near n zero p (r ∷ regions) up_to = IsUpTo-more n (n + 32768) r (omega arith) (up_to 1 p (omega arith))
region_near n (suc clip) p (r ∷ regions) up_to =
    region_near n clip p regions
    (All-cons (IsUpTo n) p regions (All-head (IsUpTo n) p (r ∷ regions) up_to)
    (λ k d low. up_to (suc (suc k)) d (omega arith)))

region_rect_from : (clip : ℕ) (connected : List Bool) (regions : List Bounds)
    → AllZip (λ connected r. IsWindow r × (connected ≡ false → r ≡ none)) connected regions
    → IsRect (region_of regions clip)
region_rect_from clip [] [] are = inl refl
region_rect_from clip [] (r ∷ regions) are = elim are [ ]
region_rect_from clip (c ∷ connected) [] are = elim are [ ]
region_rect_from zero (c ∷ connected) (r ∷ regions) are = are.0.0.bounds
region_rect_from (suc clip) (c ∷ connected) (r ∷ regions) are = region_rect_from clip connected regions are.1

-- and a rectangle of pixels
pub region_is_rect : (clip : ℕ) (v : Values) (regions : List Bounds) → AreRegions v regions
    → IsRect (region_of regions clip)
region_is_rect clip v regions are = region_rect_from clip v.connected regions are
