-- What every effect keeps, of keymix.
use Rattle.std.specs.Prelude.{◌≡◌, ◌<◌, ℕ, ℤ, Bool, true, false, List, [], ◌∷◌, length, codes, All, if◌then◌else◌, refl}
use Rattle.std.proofs.Common.{ap, arith, ◌∙◌}
use Rattle.std.proofs.lemmas.List.Elements.{All-from_recursion}
use Rattle.fx_base.specs.Bounds.{Bounds}
use Rattle.fx_base.specs.Rect.{Holds}
use Rattle.fx_pixel.specs.declared.Depth.{Depth}
use Rattle.fx_pixel.specs.declared.Components.{Components}
use Rattle.fx_pixel.specs.declared.Pixel.{Pixel}
use Rattle.fx_pixel.specs.Pixel.{greatest, zero as clear, IsOfDepth, components_of}
use Rattle.fx_effect.specs.Tap.{tap}
use Rattle.fx_effect.specs.Shape.{IsLawfulIn}
use Rattle.fx_effect.specs.ShapeTests.{shape_is}
use Rattle.fx_effect.specs.Meaning.{mixed as mixed_pixel}
use Rattle.fx_effect.specs.Laws.{Laws, TapPixels, IsCovered, IsGiven, IsSameAs, IsZeroOutside}
use Rattle.fx_effect.specs.DefaultLaws.{default_spans_near, covered_here, flag_for_each, second_near}
use Rattle.fx_effect.specs.declared.action.Context.{Context}
use Rattle.fx_effect.specs.declared.action.Identity.TheVariants.{Same, No}
use Rattle.fx_effect.specs.declared.values.Values.{Values}
use Rattle.fx_kernel.specs.Samples.{nth, each}
use Rattle.fx_kernel.specs.SampleLaws.{nth_bound, nth_clear, each_same, each_clear, each_is_pixel}
use Rattle.fx_kernel.specs.Blends.{mixed}
use Rattle.fx_kernel.specs.BlendLaws.{mixed_bound, mixed_zero}
use Rattle.fx_effect.specs.Pairs.{both_regions}
use Rattle.fx_effect.specs.PairLaws.{both_near, both_rect, both_hold_first, both_hold_second}
use Rattle.fx_merge.specs.MergesLaws.{first_connected}
use Rattle.fx_merge.specs.MergeLaws.{greatest_some, clear_components}
use Rattle.fx_merge.specs.Keymix.{keyed, has_mask, keymix_shape, keymix}

-- ---- pixels

keyed_zero : (m : ℕ) (c : Components) (mask : Pixel) → 0 < m → keyed m (clear c) (clear c) mask ≡ clear c
keyed_zero m c mask some =
    each_same (components_of (clear c)) (λ k. mixed m (nth mask 3) (nth (clear c) k) (nth (clear c) k)) (λ k. 0)
    (λ k. rw (nth_clear c k) (mixed_zero m (nth mask 3) some))
    ∙ ap (λ d. each d (λ k. 0)) (clear_components c) ∙ each_clear c

-- with a mask or without
either_zero : (masked : Bool) (m : ℕ) (c : Components) (p q mask : Pixel) → 0 < m → p ≡ clear c → q ≡ clear c
    → (if masked then keyed m p q mask else p) ≡ clear c
either_zero true m c p q mask some none_a none_b = rw (none_a, none_b) (keyed_zero m c mask some)
either_zero false m c p q mask some none_a none_b = none_a

either_is_pixel : (masked : Bool) (depth : Depth) (c : Components) (p q mask : Pixel) → IsOfDepth depth p
    → IsOfDepth depth q → IsOfDepth depth mask
    → components_of p ≡ c
    → let made = if masked then keyed (greatest depth) p q mask else p in IsOfDepth depth made
    × (components_of made ≡ c)
either_is_pixel true depth c p q mask first second third is =
    let m = greatest depth in
    let fits = each_is_pixel depth (components_of p) (λ k. mixed m (nth mask 3) (nth p k) (nth q k))
    (λ k. mixed_bound m (nth mask 3) (nth p k) (nth q k) (greatest_some depth) (nth_bound depth mask 3 third)
    (nth_bound depth p k first) (nth_bound depth q k second)) in
    (fits.0, fits.1 ∙ is)
either_is_pixel false depth c p q mask first second third is = (first, is)

-- ---- its answers

keymix_covers : (context : Context) (v : Values) (r : Bounds) (x y : ℤ) → IsLawfulIn keymix_shape context v
    → Holds r x y
    → All (IsCovered (length v.connected) (keymix.spans v) (keymix.roi v r)) (keymix.taps v x y)
keymix_covers context v r x y lawful inside =
    let flags : length v.connected ≡ 3 = flag_for_each (keymix_shape.clips context) v.connected lawful.connected in
    let here = λ (clip : ℕ) (low : clip < length v.connected). covered_here (length v.connected) clip v r x y low inside
    in
    All-from_recursion (IsCovered (length v.connected) (keymix.spans v) (keymix.roi v r)) (keymix.taps v x y)
    (here 0 (omega (arith, flags)), (here 1 (omega (arith, flags)), (here 2 (omega (arith, flags)), tt)))

keymix_zero : (context : Context) (v : Values) (regions : List Bounds) (depth : Depth) (c : Components)
    (value : TapPixels) (x y : ℤ)
    → IsZeroOutside keymix_shape context c regions value → (Holds (both_regions regions) x y → ⊥)
    → mixed_pixel keymix v depth c value x y ≡ clear c
keymix_zero context v regions depth c value x y zeros outside =
    either_zero (has_mask v) (greatest depth) c (value (tap 0 v.frame x y)) (value (tap 1 v.frame x y))
    (value (tap 2 v.frame x y)) (greatest_some depth)
    (zeros (tap 0 v.frame x y) (λ held. outside (both_hold_first regions x y held)))
    (zeros (tap 1 v.frame x y) (λ held. outside (both_hold_second regions x y held)))

-- it is A where there is no mask
is_first : (masked : Bool) (t : ℤ) (clip : ℕ) (frame : ℤ) → (if masked then No else Same 0 t) ≡ Same clip frame
    → (masked ≡ false) × (clip ≡ 0) × (frame ≡ t)
is_first true t clip frame e = absurd cc
is_first false t clip frame e = (refl, cc, cc)

without_mask : (masked : Bool) (m : ℕ) (p q mask : Pixel) → masked ≡ false
    → (if masked then keyed m p q mask else p) ≡ p
without_mask masked m p q mask is = rw is refl

keymix_same : (context : Context) (v : Values) (window : Bounds) (clip : ℕ) (frame : ℤ) (depth : Depth) (c : Components)
    (value : TapPixels)
    → IsGiven keymix_shape context v depth c value → keymix.same v window ≡ Same clip frame
    → IsSameAs keymix context v depth c value window clip frame
keymix_same context v window clip frame depth c value given same =
    let is = is_first (has_mask v) v.frame clip frame same in
    rw (is.1, is.2) (record {
      connected = first_connected (codes "A") (codes "B") (record { name = codes "Mask"; optional = true } ∷ [])
          v.connected given.lawful.connected;
      no_mask = refl;
      pixels = λ x y inside. without_mask (has_mask v) (greatest depth) (value (tap 0 v.frame x y))
          (value (tap 1 v.frame x y)) (value (tap 2 v.frame x y)) is.0;
      read = λ x y inside. (0, omega arith, refl);
    })

pub keymix_laws : Laws keymix
keymix_laws =
    record {
      shape = shape_is keymix_shape refl;
      interest_holds_taps = keymix_covers;
      zero_outside_region =
          λ context v regions depth c value x y given are zeros outside. keymix_zero context v regions depth c value x y
          zeros outside;
      identity_is_tap = keymix_same;
      frames_near = λ context v clip lawful. default_spans_near v clip;
      region_near = λ context v regions n lawful are up_to. both_near n v.project regions up_to;
      interest_near = λ context v r clip n lawful rect up_to. second_near n v.project r up_to;
      region_is_rect = λ context v regions lawful are. both_rect v regions are;
      interest_is_rect = λ context v r clip lawful rect. rect;
      pixel = λ context v depth c value x y given.
          either_is_pixel (has_mask v) depth c (value (tap 0 v.frame x y)) (value (tap 1 v.frame x y))
          (value (tap 2 v.frame x y))
          (given.depth_is (tap 0 v.frame x y)) (given.depth_is (tap 1 v.frame x y)) (given.depth_is (tap 2 v.frame x y))
          (given.components_are (tap 0 v.frame x y));
      whole_within_project = λ context v regions whole lawful are. absurd cc;
    }
