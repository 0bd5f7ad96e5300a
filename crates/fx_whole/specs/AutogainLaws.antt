-- What every effect keeps, of autogain.
use Rattle.std.specs.Prelude.{◌≡◌, ◌≤◌, ◌<◌, ℕ, ◌+◌, ◌*◌, ◌==◌, ℤ, Bool, true, false, ◌&&◌, min, List, [], ◌∷◌, map, length, All, if◌then◌else◌, refl}
use Rattle.std.specs.List.{AllZip}
use Rattle.std.proofs.Common.{zero, suc, ap, sym, subst, arith, ◌∙◌}
use Rattle.std.proofs.lemmas.List.Elements.{All-nil, All-cons, All-map}
use Rattle.fx_base.specs.Bounds.{Bounds}
use Rattle.fx_base.specs.Rect.{Holds, within, meet}
use Rattle.fx_base.specs.Run.{int_range}
use Rattle.fx_base.proofs.RunLaws.{All-flat_map, All-range}
use Rattle.fx_base.proofs.RectLemmas.{within-meet, Holds-from_inside}
use Rattle.fx_base.proofs.RectLaws.{IsRect-meet, IsUpTo-meet, IsWithin-meet_second}
use Rattle.fx_pixel.specs.declared.Depth.{Depth}
use Rattle.fx_pixel.specs.declared.Components.{Components}
use Rattle.fx_pixel.specs.declared.Components.TheVariants as components
use Rattle.fx_pixel.specs.declared.Pixel.{Pixel}
use Rattle.fx_pixel.specs.declared.Pixel.TheVariants.{Rgba, Alpha}
use Rattle.fx_pixel.specs.Pixel.{greatest, zero as clear, IsOfDepth, components_of}
use Rattle.fx_pixel.specs.PixelLaws.{zero_form}
use Rattle.fx_kernel.specs.Samples.{rounded}
use Rattle.fx_kernel.specs.SampleLaws.{rounded_zero}
use Rattle.fx_props.specs.Entries.{region_of}
use Rattle.fx_effect.specs.Tap.{Tap, tap}
use Rattle.fx_effect.specs.Shape.{IsLawfulIn, MayBe}
use Rattle.fx_effect.specs.Meaning.{mixed}
use Rattle.fx_effect.specs.Source.{source_clips}
use Rattle.fx_effect.specs.Generator.{project_is_rect}
use Rattle.fx_effect.specs.Default.{default_spans}
use Rattle.fx_effect.specs.DefaultLaws.{default_spans_near, covered_here, first_near, flag_for_each, region_near}
use Rattle.fx_effect.specs.Laws.{Laws, TapPixels, IsCovered, IsGiven, IsZeroOutside}
use Rattle.fx_effect.specs.ShapeTests.{shape_is}
use Rattle.fx_effect.specs.declared.action.Context.{Context}
use Rattle.fx_effect.specs.declared.values.Values.{Values}
use Rattle.fx_whole.specs.Autogain.{brightest, scaled, levelled, row_taps, extent_taps, autogain_taps, autogain_shape, autogain}

-- ---- levelled pixels

scaled_bound : (most level c : ℕ) → c ≤ most → scaled most level c ≤ most
scaled_bound most level c few = by (level == 0)
  where
    by : (none : Bool) → (if none then c else min most (rounded (c * most) level)) ≤ most
    by true = few
    by false = omega arith

no_product : (most : ℕ) → 0 * most ≡ 0
no_product most = omega arith

least : (most : ℕ) → min most 0 ≡ 0
least most = omega arith

nothing : (b : Bool) (n : ℕ) → n ≡ 0 → (if b then 0 else n) ≡ 0
nothing true n none = refl
nothing false n none = none

scaled_zero : (most level : ℕ) → scaled most level 0 ≡ 0
scaled_zero most zero = refl
scaled_zero most (suc level) =
    let none : rounded (0 * most) (suc level) ≡ 0 =
    ap (λ p. rounded p (suc level)) (no_product most) ∙ rounded_zero (suc level) (omega arith) in
    nothing (suc level == 0) (min most (rounded (0 * most) (suc level))) (ap (min most) none ∙ least most)

levelled_clear : (most level : ℕ) (c : Components) → levelled most level (clear c) ≡ clear c
levelled_clear most level components.Rgba = ap (λ z. Rgba z z z 0) (scaled_zero most level)
levelled_clear most level components.Alpha = refl

levelled_fits : (depth : Depth) (level : ℕ) (p : Pixel) → IsOfDepth depth p
    → IsOfDepth depth (levelled (greatest depth) level p)
    × (components_of (levelled (greatest depth) level p) ≡ components_of p)
levelled_fits depth level (Rgba r g b a) is =
    let most = greatest depth in
    ((scaled_bound most level r is.0, scaled_bound most level g is.1, scaled_bound most level b is.2, is.3), refl)
levelled_fits depth level (Alpha a) is = (is, refl)

-- ---- its pixel, inside the project's extent and outside it

-- the greatest of r, g and b over the extent
abbrev pub level_of : Values → TapPixels → ℕ
level_of v value = brightest (map value (extent_taps v.project v.frame))

pub autogain_inside : (v : Values) (depth : Depth) (c : Components) (value : TapPixels) (x y : ℤ)
    → within v.project x y ≡ true
    → mixed autogain v depth c value x y ≡ levelled (greatest depth) (level_of v value) (value (tap 0 v.frame x y))
autogain_inside v depth c value x y is = rw is refl

pub autogain_outside : (v : Values) (depth : Depth) (c : Components) (value : TapPixels) (x y : ℤ)
    → within v.project x y ≡ false → mixed autogain v depth c value x y ≡ clear c
autogain_outside v depth c value x y is = rw is refl

-- ---- its laws

both_true : (a b : Bool) → a ≡ true → b ≡ true → (a && b) ≡ true
both_true true b h k = k
both_true false b h k = h

in_both : (r s : Bounds) (x y : ℤ) → Holds r x y → Holds s x y → Holds (meet r s) x y
in_both r s x y first second = within-meet r s x y ∙ both_true (within r x y) (within s x y) first second

pub source_flag : (connected : List Bool) → AllZip MayBe source_clips connected → 0 < length connected
source_flag connected may = let one = flag_for_each source_clips connected may in omega (arith, one)

-- the tap of each place of a rectangle
All-extent : (P : Tap → Type 0) (r : Bounds) (t : ℤ) → ((x y : ℤ) → Holds r x y → P (tap 0 t x y))
    → All P (extent_taps r t)
All-extent P r t each =
    All-flat_map P (row_taps r t) (int_range r.y1 r.y2)
    (All-range (λ y. All P (row_taps r t y)) r.y1 r.y2
    (λ y low high. All-map P (λ x. tap 0 t x y) (int_range r.x1 r.x2)
    (All-range (λ x. P (tap 0 t x y)) r.x1 r.x2 (λ x left right.
    each x y (Holds-from_inside r x y (record { left = left; right = right; bottom = low; top = high }))))))

covers : (context : Context) (v : Values) (r : Bounds) (x y : ℤ) → IsLawfulIn autogain_shape context v → Holds r x y
    → All (IsCovered (length v.connected) (default_spans v) (λ clip. v.project)) (autogain_taps v x y)
covers context v r x y lawful inside = go (within v.project x y) refl
  where
    P : Tap → Type 0
    P = IsCovered (length v.connected) (default_spans v) (λ clip. v.project)

    here : (x y : ℤ) → Holds v.project x y → P (tap 0 v.frame x y)
    here x y held = covered_here (length v.connected) 0 v v.project x y (source_flag v.connected lawful.connected) held

    go : (b : Bool) → within v.project x y ≡ b
        → All P (if b then tap 0 v.frame x y ∷ extent_taps v.project v.frame else [])
    go true is =
        All-cons P (tap 0 v.frame x y) (extent_taps v.project v.frame) (here x y is)
        (All-extent P v.project v.frame here)
    go false is = All-nil P

clears : (context : Context) (v : Values) (regions : List Bounds) (depth : Depth) (c : Components) (value : TapPixels)
    (x y : ℤ) → IsZeroOutside autogain_shape context c regions value
    → (Holds (meet (region_of regions 0) v.project) x y → ⊥) → mixed autogain v depth c value x y ≡ clear c
clears context v regions depth c value x y zeros outside = go (within v.project x y) refl
  where
    go : (b : Bool) → within v.project x y ≡ b → mixed autogain v depth c value x y ≡ clear c
    go true is =
        autogain_inside v depth c value x y is
        ∙ ap (levelled (greatest depth) (level_of v value))
        (zeros (tap 0 v.frame x y) (λ held. outside (in_both (region_of regions 0) v.project x y held is)))
        ∙ levelled_clear (greatest depth) (level_of v value) c
    go false is = autogain_outside v depth c value x y is

makes : (context : Context) (v : Values) (depth : Depth) (c : Components) (value : TapPixels) (x y : ℤ)
    → IsGiven autogain_shape context v depth c value
    → IsOfDepth depth (mixed autogain v depth c value x y) × (components_of (mixed autogain v depth c value x y) ≡ c)
makes context v depth c value x y given = go (within v.project x y) refl
  where
    Fits : Pixel → Type 0
    Fits p = IsOfDepth depth p × (components_of p ≡ c)

    go : (b : Bool) → within v.project x y ≡ b → Fits (mixed autogain v depth c value x y)
    go true is =
        let t = tap 0 v.frame x y in
        let fits = levelled_fits depth (level_of v value) (value t) (given.depth_is t) in
        subst Fits (sym (autogain_inside v depth c value x y is)) (fits.0, fits.1 ∙ given.components_are t)
    go false is = subst Fits (sym (autogain_outside v depth c value x y is)) (zero_form depth c)

pub autogain_laws : Laws autogain
autogain_laws =
    record {
      shape = shape_is autogain_shape refl;
      interest_holds_taps = covers;
      zero_outside_region = λ context v regions depth c value x y given are zeros outside.
          clears context v regions depth c value x y zeros outside;
      identity_is_tap = λ context v window clip frame depth c value given same. absurd cc;
      frames_near = λ context v clip lawful. default_spans_near v clip;
      region_near = λ context v regions n lawful are up_to.
          IsUpTo-meet (n + 32768) (region_of regions 0) v.project (region_near n 0 v.project regions up_to);
      interest_near = λ context v r clip n lawful rect up_to. first_near n v.project (r ∷ []) up_to;
      region_is_rect = λ context v regions lawful are. IsRect-meet (region_of regions 0) v.project;
      interest_is_rect = λ context v r clip lawful rect. project_is_rect v.project lawful.project;
      pixel = makes;
      whole_within_project = λ context v regions whole lawful are. IsWithin-meet_second (region_of regions 0) v.project;
    }
