-- Effects whose pixel is made of the pixels at its own place, of a list of clips and frames.
use Rattle.std.specs.Prelude.{◌≡◌, ℕ, ◌<◌, ◌+◌, ℤ, true, false, List, [], ◌∷◌, length, map, All, IsTrue, slice_get, slice_index_or, Some, refl}
use Rattle.std.specs.List.{Contains}
use Rattle.std.proofs.Common.{zero, suc, ap, sym, subst, arith, ◌∙◌}
use Rattle.std.proofs.lemmas.List.Elements.{All-nil, All-cons}
use Rattle.std.proofs.lemmas.Simd.{map-map}
use Rattle.fx_base.specs.Bounds.{Bounds, IsRect}
use Rattle.fx_base.specs.Rect.{Holds, IsWithin, IsUpTo}
use Rattle.fx_pixel.specs.declared.Depth.{Depth}
use Rattle.fx_pixel.specs.declared.Components.{Components}
use Rattle.fx_pixel.specs.declared.Pixel.{Pixel}
use Rattle.fx_pixel.specs.Pixel.{greatest, zero as clear, IsOfDepth, components_of}
use Rattle.fx_props.specs.Entries.{region_of}
use Rattle.fx_effect.specs.Tap.{Tap, tap}
use Rattle.fx_effect.specs.Shape.{Shape, IsShape, IsLawfulIn, clip_names, is_mask, supports}
use Rattle.fx_effect.specs.Meaning.{Meaning, mixed}
use Rattle.fx_effect.specs.Asked.{AreRegions}
use Rattle.fx_effect.specs.Laws.{Laws, TapPixels, IsCovered, IsGiven, IsSameAs, IsNearSpan, IsZeroOutside, InSpan, seen_as}
use Rattle.fx_effect.specs.DefaultLaws.{second_near}
use Rattle.fx_effect.specs.declared.action.Context.{Context}
use Rattle.fx_effect.specs.declared.action.Identity.TheVariants.{Same}
use Rattle.fx_effect.specs.declared.values.Values.{Values}

-- a clip at a frame
abbrev pub Read : Type 0
Read = ℕ × ℤ

abbrev pub own_taps : List Read → ℤ → ℤ → List Tap
own_taps reads x y = map (λ r. tap r.0 r.1 x y) reads

-- the clip is there, and the frame is one of those that are needed of it
pub record IsRead (clips : ℕ) (spans : ℕ → List (ℤ × ℤ)) (r : Read) : Type 0 where
  pub there : r.0 < clips
  pub span : ℤ × ℤ
  pub listed : Contains (spans r.0) span
  pub at_frame : InSpan r.1 span

-- a pixel for each clip and frame, of the depth and of the components of its clip
pub record AreShown (s : Shape) (context : Context) (depth : Depth) (c : Components) (value : Read → Pixel)
    : Type 0 where
  pub depth_is : (r : Read) → IsOfDepth depth (value r)
  pub components_are : (r : Read) → components_of (value r) ≡ seen_as s context c r.0

-- over the window the effect is the same as one of what it reads
pub record IsSameRead (m : Meaning) (reads : List Read) (context : Context) (v : Values) (depth : Depth)
    (c : Components) (window : Bounds) (clip : ℕ) (frame : ℤ) : Type 0 where
  pub connected : slice_get v.connected clip ≡ Some true
  pub no_mask : is_mask (slice_index_or (clip_names m.shape context) clip []) ≡ false
  pub read : Contains reads (clip, frame)
  pub pixels : (value : Read → Pixel) (x y : ℤ) → AreShown m.shape context depth c value → Holds window x y
      → m.mix v c (greatest depth) x y (map value reads) ≡ value (clip, frame)

-- what is asked of an effect that reads these at its own place
pub record IsLocal (m : Meaning) (reads : Values → List Read) : Type 0 where
  pub taps : (v : Values) (x y : ℤ) → m.taps v x y ≡ own_taps (reads v) x y
  pub interest : (v : Values) (r : Bounds) (clip : ℕ) → m.roi v r clip ≡ r
  pub reads_there : (context : Context) (v : Values) → IsLawfulIn m.shape context v
      → All (IsRead (length v.connected) (m.spans v)) (reads v)
  pub frames_near : (context : Context) (v : Values) (clip : ℕ) → IsLawfulIn m.shape context v
      → All (IsNearSpan v.frame) (m.spans v clip)
  pub region_near : (context : Context) (v : Values) (regions : List Bounds) (n : ℕ) → IsLawfulIn m.shape context v
      → AreRegions v regions → All (IsUpTo n) (v.project ∷ regions) → IsUpTo (n + 32768) (m.rod context v regions)
  pub region_is_rect : (context : Context) (v : Values) (regions : List Bounds) → IsLawfulIn m.shape context v
      → AreRegions v regions → IsRect (m.rod context v regions)
  pub whole : (context : Context) (v : Values) (regions : List Bounds) → m.shape.tiles ≡ false
      → IsLawfulIn m.shape context v → AreRegions v regions → IsWithin (m.rod context v regions) v.project
  -- its region has the region of each clip that it reads
  pub region_holds : (context : Context) (v : Values) (regions : List Bounds) (r : Read) (x y : ℤ)
      → IsLawfulIn m.shape context v → AreRegions v regions → Contains (reads v) r
      → Holds (region_of regions r.0) x y → Holds (m.rod context v regions) x y
  -- of zeros it makes zero
  pub zero_stays : (context : Context) (v : Values) (depth : Depth) (c : Components) (x y : ℤ)
      → IsLawfulIn m.shape context v → IsTrue (supports m.shape depth c)
      → m.mix v c (greatest depth) x y (map (λ r. clear (seen_as m.shape context c r.0)) (reads v)) ≡ clear c
  pub pixel : (context : Context) (v : Values) (depth : Depth) (c : Components) (value : Read → Pixel) (x y : ℤ)
      → IsLawfulIn m.shape context v → IsTrue (supports m.shape depth c) → AreShown m.shape context depth c value
      → let p = m.mix v c (greatest depth) x y (map value (reads v)) in IsOfDepth depth p × (components_of p ≡ c)
  pub same : (context : Context) (v : Values) (window : Bounds) (clip : ℕ) (frame : ℤ) (depth : Depth) (c : Components)
      → IsLawfulIn m.shape context v → IsTrue (supports m.shape depth c) → m.same v window ≡ Same clip frame
      → IsSameRead m (reads v) context v depth c window clip frame

-- ---- lists of what is read

map_same : {A B : Type 0} (f g : A → B) (xs : List A) → ((x : A) → Contains xs x → f x ≡ g x) → map f xs ≡ map g xs
map_same f g [] same = refl
map_same f g (x ∷ xs) same =
    ap (λ y. y ∷ map f xs) (same x (0, omega arith, refl))
    ∙ ap (λ ys. g x ∷ ys) (map_same f g xs (λ z there. same z (suc there.0, omega (arith, there.1), there.2)))

all_map : {A B : Type 0} (P : B → Type 0) (f : A → B) (xs : List A) → All (λ x. P (f x)) xs → All P (map f xs)
all_map P f [] all = All-nil P
all_map P f (x ∷ xs) all =
    All-cons P (f x) (map f xs) (all 0 x (omega arith)) (all_map P f xs (λ k d low. all (suc k) d (omega arith)))

all_weaker : {A : Type 0} (P Q : A → Type 0) → ((x : A) → P x → Q x) → (xs : List A) → All P xs → All Q xs
all_weaker P Q tells xs all k d low = tells _ (all k d low)

contains_map : {A B : Type 0} (f : A → B) (xs : List A) (x : A) → Contains xs x → Contains (map f xs) (f x)
contains_map f [] x (k, low, is) = absurd (omega arith)
contains_map f (y ∷ xs) x (zero, low, is) = (0, omega arith, ap f is)
contains_map f (y ∷ xs) x (suc k, low, is) =
    let there = contains_map f xs x (k, omega arith, is) in (suc there.0, omega (arith, there.1), there.2)

-- ---- their laws

module _ (m : Meaning) (reads : Values → List Read) (is : IsShape m.shape) (keeps : IsLocal m reads) where
  -- the pixels of what is read at a place
  at_place : TapPixels → ℤ → ℤ → Read → Pixel
  at_place value x y r = value (tap r.0 r.1 x y)

  mixed_is : (v : Values) (depth : Depth) (c : Components) (value : TapPixels) (x y : ℤ)
      → mixed m v depth c value x y ≡ m.mix v c (greatest depth) x y (map (λ r. value (tap r.0 r.1 x y)) (reads v))
  mixed_is v depth c value x y =
      ap (λ ts. m.mix v c (greatest depth) x y (map value ts)) (keeps.taps v x y)
      ∙ ap (m.mix v c (greatest depth) x y) (map-map value (λ (r : Read). tap r.0 r.1 x y) (reads v))

  shown : (context : Context) (v : Values) (depth : Depth) (c : Components) (value : TapPixels) (x y : ℤ)
      → IsGiven m.shape context v depth c value → AreShown m.shape context depth c (λ r. value (tap r.0 r.1 x y))
  shown context v depth c value x y given =
      record {
        depth_is = λ r. given.depth_is (tap r.0 r.1 x y);
        components_are = λ r. given.components_are (tap r.0 r.1 x y);
      }

  covers : (context : Context) (v : Values) (r : Bounds) (x y : ℤ) → IsLawfulIn m.shape context v → Holds r x y
      → All (IsCovered (length v.connected) (m.spans v) (m.roi v r)) (m.taps v x y)
  covers context v r x y lawful inside =
      let P : Tap → Type 0 = IsCovered (length v.connected) (m.spans v) (m.roi v r) in
      subst (All P) (sym (keeps.taps v x y))
      (all_map P (λ (a : Read). tap a.0 a.1 x y) (reads v)
      (all_weaker (IsRead (length v.connected) (m.spans v)) (λ a. P (tap a.0 a.1 x y))
      (λ a read. record {
        clip = read.there;
        span = read.span;
        listed = read.listed;
        at_frame = read.at_frame;
        in_region = subst (λ b. Holds b x y) (sym (keeps.interest v r a.0)) inside;
      })
      (reads v) (keeps.reads_there context v lawful)))

  zeros : (context : Context) (v : Values) (regions : List Bounds) (depth : Depth) (c : Components) (value : TapPixels)
      (x y : ℤ) → IsGiven m.shape context v depth c value → AreRegions v regions
      → IsZeroOutside m.shape context c regions value → (Holds (m.rod context v regions) x y → ⊥)
      → mixed m v depth c value x y ≡ clear c
  zeros context v regions depth c value x y given are none outside =
      mixed_is v depth c value x y
      ∙ ap (m.mix v c (greatest depth) x y)
      (map_same (λ (r : Read). value (tap r.0 r.1 x y)) (λ (r : Read). clear (seen_as m.shape context c r.0)) (reads v)
      (λ r there. none (tap r.0 r.1 x y)
      (λ held. outside (keeps.region_holds context v regions r x y given.lawful are there held))))
      ∙ keeps.zero_stays context v depth c x y given.lawful given.supported

  same_as : (context : Context) (v : Values) (window : Bounds) (clip : ℕ) (frame : ℤ) (depth : Depth) (c : Components)
      (value : TapPixels) → IsGiven m.shape context v depth c value → m.same v window ≡ Same clip frame
      → IsSameAs m context v depth c value window clip frame
  same_as context v window clip frame depth c value given answer =
      let one = keeps.same context v window clip frame depth c given.lawful given.supported answer in
      record {
        connected = one.connected;
        no_mask = one.no_mask;
        pixels = λ x y inside. mixed_is v depth c value x y
            ∙ one.pixels (λ r. value (tap r.0 r.1 x y)) x y (shown context v depth c value x y given) inside;
        read = λ x y inside. subst (λ ts. Contains ts (tap clip frame x y)) (sym (keeps.taps v x y))
            (contains_map (λ (r : Read). tap r.0 r.1 x y) (reads v) (clip, frame) one.read);
      }

  makes : (context : Context) (v : Values) (depth : Depth) (c : Components) (value : TapPixels) (x y : ℤ)
      → IsGiven m.shape context v depth c value
      → IsOfDepth depth (mixed m v depth c value x y) × (components_of (mixed m v depth c value x y) ≡ c)
  makes context v depth c value x y given =
      subst (λ p. IsOfDepth depth p × (components_of p ≡ c)) (sym (mixed_is v depth c value x y))
      (keeps.pixel context v depth c (λ r. value (tap r.0 r.1 x y)) x y given.lawful given.supported
      (shown context v depth c value x y given))

  pub local_laws : Laws m
  local_laws =
      record {
        shape = is;
        interest_holds_taps = covers;
        zero_outside_region = zeros;
        identity_is_tap = same_as;
        frames_near = keeps.frames_near;
        region_near = keeps.region_near;
        interest_near =
            λ context v r clip n lawful rect up_to. subst (IsUpTo (n + 32768)) (sym (keeps.interest v r clip))
            (second_near n v.project r up_to);
        region_is_rect = keeps.region_is_rect;
        interest_is_rect = λ context v r clip lawful rect. subst IsRect (sym (keeps.interest v r clip)) rect;
        pixel = makes;
        whole_within_project = keeps.whole;
      }
