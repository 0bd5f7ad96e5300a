-- What every effect keeps, of crop.
use Rattle.std.specs.Prelude.{◌≡◌, ℕ, ◌+◌, ℤ, pos, negsuc, Bool, true, false, ◌&&◌, ◌||◌, ◌↔◌, IsTrue, List, [], ◌∷◌, length, All, if◌then◌else◌, refl}
use Rattle.std.specs.List.{Contains}
use Rattle.std.proofs.Common.{sym, subst, arith, ◌∙◌}
use Rattle.std.proofs.lemmas.List.Elements.{All-nil, All-cons}
use Rattle.fx_base.specs.Bounds.{Bounds}
use Rattle.fx_base.specs.Rect.{Holds, IsWithin, within, is_empty, meet}
use Rattle.fx_base.proofs.RectLemmas.{within-meet, IsWithin-empty, IsWithin-enclosed, IsProper-from_test, Encloses-from_test, Encloses-from_within, test-encloses, same_test}
use Rattle.fx_base.proofs.RectLaws.{IsRect-meet, IsUpTo-meet}
use Rattle.fx_pixel.specs.declared.Depth.{Depth}
use Rattle.fx_pixel.specs.declared.Components.{Components}
use Rattle.fx_pixel.specs.declared.Pixel.{Pixel}
use Rattle.fx_pixel.specs.Pixel.{zero as clear, IsOfDepth, components_of}
use Rattle.fx_pixel.specs.PixelLaws.{zero_form}
use Rattle.fx_params.specs.declared.def.ParamDef.{ParamDef}
use Rattle.fx_props.specs.Entries.{region_of}
use Rattle.fx_effect.specs.Tap.{Tap, tap}
use Rattle.fx_effect.specs.Shape.{IsLawfulIn}
use Rattle.fx_effect.specs.Numbers.{number}
use Rattle.fx_effect.specs.NumberLaws.{Between, number_between}
use Rattle.fx_effect.specs.Meaning.{mixed}
use Rattle.fx_effect.specs.Default.{default_spans}
use Rattle.fx_effect.specs.DefaultLaws.{default_spans_near, covered_here, second_near, region_near}
use Rattle.fx_effect.specs.Laws.{Laws, TapPixels, IsCovered, IsGiven, IsSameAs, IsZeroOutside}
use Rattle.fx_effect.specs.ShapeTests.{shape_is}
use Rattle.fx_effect.specs.declared.action.Context.{Context}
use Rattle.fx_effect.specs.declared.action.Identity.TheVariants.{Same}
use Rattle.fx_effect.specs.declared.values.Values.{Values}
use Rattle.fx_effect.specs.SourceLaws.{source_flag, source_connected, same_source}
use Rattle.fx_move.specs.Crop.{corner, crop_params, crop_rect, is_within, crop_taps, crop_shape, crop}

both_true : (a b : Bool) → a ≡ true → b ≡ true → (a && b) ≡ true
both_true true b h k = k
both_true false b h k = h

-- a place of both
in_both : (r s : Bounds) (x y : ℤ) → Holds r x y → Holds s x y → Holds (meet r s) x y
in_both r s x y first second = within-meet r s x y ∙ both_true (within r x y) (within s x y) first second

or_test : (a b : Bool) → (a || b) ≡ true → a ≡ false → b ≡ true
or_test true b h is = absurd cc
or_test false b h is = h

-- the test tells what it says
pub is_within-tells : (r s : Bounds) → is_within r s ≡ true → IsWithin r s
is_within-tells r s test = go (is_empty r) refl
  where
    go : (b : Bool) → is_empty r ≡ b → IsWithin r s
    go true is = IsWithin-empty r s is
    go false is = IsWithin-enclosed r s (Encloses-from_test s r (or_test (is_empty r) _ test is))

is_within-back : (r s : Bounds) → IsWithin r s → is_within r s ≡ true
is_within-back r s inside = go (is_empty r) refl
  where
    go : (b : Bool) → is_empty r ≡ b → is_within r s ≡ true
    go true is = rw is refl
    go false is = rw is (test-encloses s r (Encloses-from_within r s (IsProper-from_test r is) inside))

pub is_within-decides : (r s : Bounds) (b : Bool) → (IsTrue b ↔ IsWithin r s) → b ≡ is_within r s
is_within-decides r s b decides =
    same_test b (is_within r s) (λ h. is_within-back r s (decides.0 h)) (λ h. decides.1 (is_within-tells r s h))

-- the numbers
pub crop_numbers : (context : Context) (v : Values) → IsLawfulIn crop_shape context v
    → Between (negsuc 16383) (pos 16384) (number v 0) × Between (negsuc 16383) (pos 16384) (number v 1)
    × Between (pos 0) (pos 16384) (number v 2) × Between (pos 0) (pos 16384) (number v 3)
crop_numbers context v lawful =
    let at : ParamDef = corner [] in (
      number_between crop_params v 0 at lawful.numbers (omega arith),
      number_between crop_params v 1 at lawful.numbers (omega arith),
      number_between crop_params v 2 at lawful.numbers (omega arith),
      number_between crop_params v 3 at lawful.numbers (omega arith),
    )

-- ---- its laws

crop_covers : (context : Context) (v : Values) (r : Bounds) (x y : ℤ) → IsLawfulIn crop_shape context v → Holds r x y
    → All (IsCovered (length v.connected) (default_spans v) (λ clip. meet r (crop_rect v))) (crop_taps v x y)
crop_covers context v r x y lawful inside = go (within (crop_rect v) x y) refl
  where
    P : Tap → Type 0
    P = IsCovered (length v.connected) (default_spans v) (λ clip. meet r (crop_rect v))

    go : (b : Bool) → within (crop_rect v) x y ≡ b → All P (if b then tap 0 v.frame x y ∷ [] else [])
    go true is =
        All-cons P (tap 0 v.frame x y) []
        (covered_here (length v.connected) 0 v (meet r (crop_rect v)) x y (source_flag v.connected lawful.connected)
        (in_both r (crop_rect v) x y inside is))
        (All-nil P)
    go false is = All-nil P

-- inside it is its source, and outside zero
pub crop_inside : (v : Values) (depth : Depth) (c : Components) (value : TapPixels) (x y : ℤ)
    → within (crop_rect v) x y ≡ true → mixed crop v depth c value x y ≡ value (tap 0 v.frame x y)
crop_inside v depth c value x y is = rw is refl

pub crop_outside : (v : Values) (depth : Depth) (c : Components) (value : TapPixels) (x y : ℤ)
    → within (crop_rect v) x y ≡ false → mixed crop v depth c value x y ≡ clear c
crop_outside v depth c value x y is = rw is refl

crop_clear : (context : Context) (v : Values) (regions : List Bounds) (depth : Depth) (c : Components)
    (value : TapPixels) (x y : ℤ) → IsZeroOutside crop_shape context c regions value
    → (Holds (meet (region_of regions 0) (crop_rect v)) x y → ⊥) → mixed crop v depth c value x y ≡ clear c
crop_clear context v regions depth c value x y zeros outside = go (within (crop_rect v) x y) refl
  where
    go : (b : Bool) → within (crop_rect v) x y ≡ b → mixed crop v depth c value x y ≡ clear c
    go true is =
        crop_inside v depth c value x y is
        ∙ zeros (tap 0 v.frame x y) (λ held. outside (in_both (region_of regions 0) (crop_rect v) x y held is))
    go false is = crop_outside v depth c value x y is

crop_pixel : (context : Context) (v : Values) (depth : Depth) (c : Components) (value : TapPixels) (x y : ℤ)
    → IsGiven crop_shape context v depth c value
    → IsOfDepth depth (mixed crop v depth c value x y) × (components_of (mixed crop v depth c value x y) ≡ c)
crop_pixel context v depth c value x y given = go (within (crop_rect v) x y) refl
  where
    Fits : Pixel → Type 0
    Fits p = IsOfDepth depth p × (components_of p ≡ c)

    go : (b : Bool) → within (crop_rect v) x y ≡ b → Fits (mixed crop v depth c value x y)
    go true is =
        let t = tap 0 v.frame x y in
        subst Fits (sym (crop_inside v depth c value x y is)) (given.depth_is t, given.components_are t)
    go false is = subst Fits (sym (crop_outside v depth c value x y is)) (zero_form depth c)

crop_read : (v : Values) (x y : ℤ) → within (crop_rect v) x y ≡ true
    → Contains (crop_taps v x y) (tap 0 v.frame x y)
crop_read v x y is = rw is (0, omega arith, refl)

crop_same : (context : Context) (v : Values) (window : Bounds) (clip : ℕ) (frame : ℤ) (depth : Depth) (c : Components)
    (value : TapPixels) → IsGiven crop_shape context v depth c value → crop.same v window ≡ Same clip frame
    → IsSameAs crop context v depth c value window clip frame
crop_same context v window clip frame depth c value given same =
    let is = same_source (is_within window (crop_rect v)) v.frame clip frame same in
    let kept = is_within-tells window (crop_rect v) is.0 in
    rw (is.1, is.2)
    (record {
      connected = source_connected v.connected given.lawful.connected;
      no_mask = refl;
      pixels = λ x y inside. crop_inside v depth c value x y (kept x y inside);
      read = λ x y inside. crop_read v x y (kept x y inside);
    })

pub crop_laws : Laws crop
crop_laws =
    record {
      shape = shape_is crop_shape refl;
      interest_holds_taps = crop_covers;
      zero_outside_region = λ context v regions depth c value x y given are zeros outside.
          crop_clear context v regions depth c value x y zeros outside;
      identity_is_tap = crop_same;
      frames_near = λ context v clip lawful. default_spans_near v clip;
      region_near = λ context v regions n lawful are up_to.
          IsUpTo-meet (n + 32768) (region_of regions 0) (crop_rect v) (region_near n 0 v.project regions up_to);
      interest_near = λ context v r clip n lawful rect up_to.
          IsUpTo-meet (n + 32768) r (crop_rect v) (second_near n v.project r up_to);
      region_is_rect = λ context v regions lawful are. IsRect-meet (region_of regions 0) (crop_rect v);
      interest_is_rect = λ context v r clip lawful rect. IsRect-meet r (crop_rect v);
      pixel = crop_pixel;
      whole_within_project = λ context v regions whole lawful are. absurd cc;
    }
