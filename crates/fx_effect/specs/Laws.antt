-- What every effect keeps, for all lawful values.
use Rattle.std.specs.Prelude.{◌≡◌, ◌<◌, ◌+◌, ℕ, ℤ, pos, ◌≤ℤ◌, ◌+ℤ◌, ◌-ℤ◌, true, false, List, [], ◌∷◌, length, slice_index_or, slice_get, Some, All, IsTrue}
use Rattle.std.specs.List.{Contains}
use Rattle.fx_base.specs.Bounds.{Bounds, IsRect}
use Rattle.fx_base.specs.Rect.{Holds, IsWithin, IsUpTo}
use Rattle.fx_pixel.specs.declared.Depth.{Depth}
use Rattle.fx_pixel.specs.declared.Components.{Components}
use Rattle.fx_pixel.specs.declared.Pixel.{Pixel}
use Rattle.fx_pixel.specs.Pixel.{zero, IsOfDepth, components_of}
use Rattle.fx_effect.specs.Tap.{Tap, tap}
use Rattle.fx_effect.specs.Shape.{Shape, IsShape, clip_names, is_mask, shown_as, supports, IsLawfulIn}
use Rattle.fx_effect.specs.Meaning.{Meaning, mixed}
use Rattle.fx_props.specs.Entries.{region_of}
use Rattle.fx_effect.specs.Asked.{AreRegions}
use Rattle.fx_effect.specs.declared.action.Context.{Context}
use Rattle.fx_effect.specs.declared.action.Identity.TheVariants.{Same}
use Rattle.fx_effect.specs.declared.values.Values.{Values}

-- the components in which a clip is seen in a context
abbrev pub seen_as : Shape → Context → Components → ℕ → Components
seen_as s context c clip = shown_as c (slice_index_or (clip_names s context) clip [])

-- a pixel for each tap
abbrev pub TapPixels : Type 0
TapPixels = Tap → Pixel

-- Lawful values in a context, a depth and components that the effect renders, and a pixel for each tap, of the depth
-- and of the components of its clip.
pub record IsGiven (s : Shape) (context : Context) (v : Values) (depth : Depth) (c : Components) (value : TapPixels)
    : Type 0 where
  pub lawful : IsLawfulIn s context v
  pub supported : IsTrue (supports s depth c)
  pub depth_is : (t : Tap) → IsOfDepth depth (value t)
  pub components_are : (t : Tap) → components_of (value t) ≡ seen_as s context c t.clip

-- the frame lies in one of the spans
abbrev pub InSpan : ℤ → ℤ × ℤ → Type 0
InSpan f span = (span.0 ≤ℤ f) × (f ≤ℤ span.1)

-- the tap is on an input clip, at a frame of its spans, and in its region
pub record IsCovered (clips : ℕ) (spans : ℕ → List (ℤ × ℤ)) (roi : ℕ → Bounds) (t : Tap) : Type 0 where
  pub clip : t.clip < clips
  pub span : ℤ × ℤ
  pub listed : Contains (spans t.clip) span
  pub at_frame : InSpan t.frame span
  pub in_region : Holds (roi t.clip) t.x t.y

-- each tap outside its clip's region is zero
abbrev pub IsZeroOutside : Shape → Context → Components → List Bounds → (Tap → Pixel) → Type 0
IsZeroOutside s context c regions value =
    (t : Tap) → (Holds (region_of regions t.clip) t.x t.y → ⊥) → value t ≡ zero (seen_as s context c t.clip)

-- over the window the effect is the same as a clip at a frame
pub record IsSameAs (m : Meaning) (context : Context) (v : Values) (depth : Depth) (c : Components)
    (value : TapPixels) (window : Bounds) (clip : ℕ) (frame : ℤ) : Type 0 where
  pub connected : slice_get v.connected clip ≡ Some true
  pub no_mask : is_mask (slice_index_or (clip_names m.shape context) clip []) ≡ false
  pub pixels : (x y : ℤ) → Holds window x y → mixed m v depth c value x y ≡ value (tap clip frame x y)
  pub read : (x y : ℤ) → Holds window x y → Contains (m.taps v x y) (tap clip frame x y)

-- both frames lie within 100,000 of t
pub record IsNearSpan (t : ℤ) (span : ℤ × ℤ) : Type 0 where
  pub first_after : (t -ℤ pos 100000) ≤ℤ span.0
  pub first_before : span.0 ≤ℤ (t +ℤ pos 100000)
  pub last_after : (t -ℤ pos 100000) ≤ℤ span.1
  pub last_before : span.1 ≤ℤ (t +ℤ pos 100000)

pub record Laws (m : Meaning) : Type 0 where
  -- it describes itself as an effect may
  pub shape : IsShape m.shape
  -- every tap of a pixel of a region lies in the frames answered and, at that frame, in the region of interest
  -- answered of its clip
  pub interest_holds_taps : (context : Context) (v : Values) (r : Bounds) (x y : ℤ)
      → IsLawfulIn m.shape context v → Holds r x y
      → All (IsCovered (length v.connected) (m.spans v) (m.roi v r)) (m.taps v x y)
  -- outside the region of definition answered the pixel is zero, where taps outside the inputs' regions are zero
  pub zero_outside_region : (context : Context) (v : Values) (regions : List Bounds) (depth : Depth) (c : Components)
      (value : TapPixels) (x y : ℤ)
      → IsGiven m.shape context v depth c value → AreRegions v regions
      → IsZeroOutside m.shape context c regions value → (Holds (m.rod context v regions) x y → ⊥)
      → mixed m v depth c value x y ≡ zero c
  -- where a clip and a frame are answered for a window, the effect is the same as these there
  pub identity_is_tap : (context : Context) (v : Values) (window : Bounds) (clip : ℕ) (frame : ℤ) (depth : Depth)
      (c : Components) (value : TapPixels)
      → IsGiven m.shape context v depth c value → m.same v window ≡ Same clip frame
      → IsSameAs m context v depth c value window clip frame
  -- the frames answered are near the frame asked for
  pub frames_near : (context : Context) (v : Values) (clip : ℕ)
      → IsLawfulIn m.shape context v → All (IsNearSpan v.frame) (m.spans v clip)
  -- answered rectangles reach at most 32,768 further than those handed in and the project's extent
  pub region_near : (context : Context) (v : Values) (regions : List Bounds) (n : ℕ)
      → IsLawfulIn m.shape context v → AreRegions v regions → All (IsUpTo n) (v.project ∷ regions)
      → IsUpTo (n + 32768) (m.rod context v regions)
  pub interest_near : (context : Context) (v : Values) (r : Bounds) (clip n : ℕ)
      → IsLawfulIn m.shape context v → IsRect r → All (IsUpTo n) (v.project ∷ r ∷ [])
      → IsUpTo (n + 32768) (m.roi v r clip)
  -- answered regions are rectangles of pixels
  pub region_is_rect : (context : Context) (v : Values) (regions : List Bounds)
      → IsLawfulIn m.shape context v → AreRegions v regions → IsRect (m.rod context v regions)
  pub interest_is_rect : (context : Context) (v : Values) (r : Bounds) (clip : ℕ)
      → IsLawfulIn m.shape context v → IsRect r → IsRect (m.roi v r clip)
  -- it makes pixels of the depth and the components that it renders
  pub pixel : (context : Context) (v : Values) (depth : Depth) (c : Components) (value : TapPixels) (x y : ℤ)
      → IsGiven m.shape context v depth c value
      → IsOfDepth depth (mixed m v depth c value x y) × (components_of (mixed m v depth c value x y) ≡ c)
  -- where it supports no tiles, its region of definition lies within the project's extent
  pub whole_within_project : (context : Context) (v : Values) (regions : List Bounds)
      → m.shape.tiles ≡ false → IsLawfulIn m.shape context v → AreRegions v regions
      → IsWithin (m.rod context v regions) v.project
