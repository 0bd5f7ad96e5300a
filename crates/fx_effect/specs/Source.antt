-- Effects with the one clip Source, and those whose pixel is made of the pixel at its own place.
use Rattle.std.specs.Prelude.{◌≡◌, ℕ, ◌<◌, ℤ, Bool, true, false, List, [], ◌∷◌, length, codes, All, IsTrue, slice_get, slice_index_or, Some, refl}
use Rattle.std.specs.List.{AllZip}
use Rattle.std.proofs.Common.{ap, sym, subst, arith, ◌∙◌}
use Rattle.std.proofs.lemmas.List.Elements.{All-nil, All-cons}
use Rattle.fx_base.specs.Bounds.{Bounds}
use Rattle.fx_base.specs.Rect.{Holds}
use Rattle.fx_pixel.specs.declared.Depth.{Depth}
use Rattle.fx_pixel.specs.declared.Components.{Components}
use Rattle.fx_pixel.specs.declared.Pixel.{Pixel}
use Rattle.fx_pixel.specs.Pixel.{greatest, zero as clear, IsOfDepth, components_of}
use Rattle.fx_params.specs.declared.def.ParamDef.{ParamDef}
use Rattle.fx_effect.specs.Tap.{Tap, tap}
use Rattle.fx_effect.specs.Shape.{Shape, Clip, IsShape, IsLawfulIn, MayBe, is_mask, clip_names, supports}
use Rattle.fx_effect.specs.Meaning.{Meaning}
use Rattle.fx_effect.specs.Laws.{Laws, IsCovered, IsGiven, IsSameAs, seen_as}
use Rattle.fx_effect.specs.Default.{default_spans}
use Rattle.fx_props.specs.Entries.{region_of}
use Rattle.fx_effect.specs.DefaultLaws.{default_spans_near, covered_here, flag_for_each, second_near, region_near, region_is_rect}
use Rattle.fx_effect.specs.declared.action.Context.{Context}
use Rattle.fx_effect.specs.declared.action.Context.TheVariants as context
use Rattle.fx_effect.specs.declared.action.Identity.{Identity}
use Rattle.fx_effect.specs.declared.action.Identity.TheVariants.{Same}
use Rattle.fx_effect.specs.declared.action.Safety.{Safety}
use Rattle.fx_effect.specs.declared.values.Values.{Values}

abbrev pub source_clips : List Clip
source_clips = record { name = codes "Source"; optional = false } ∷ []

-- a filter, which is of use in the general context too
abbrev pub source_shape : List ℕ → List Depth → List Components → Bool → Safety → List ParamDef → Shape
source_shape label depths components temporal safety params =
    record {
      label = label;
      contexts = context.Filter ∷ context.General ∷ [];
      depths = depths;
      components = components;
      temporal = temporal;
      tiles = true;
      safety = safety;
      clips = λ c. source_clips;
      params = λ c. params;
    }

-- its pixel is made of the pixel at its own place of the current frame
abbrev pub made_of : (ℕ → Pixel → Pixel) → ℕ → Components → List Pixel → Pixel
made_of of m c [] = clear c
made_of of m c (p ∷ ps) = of m p

abbrev pub point_effect : Shape → (Values → ℕ → Pixel → Pixel) → (Values → Bounds → Identity) → Meaning
point_effect s of same =
    record {
      shape = s;
      taps = λ v x y. tap 0 v.frame x y ∷ [];
      mix = λ v c m x y pixels. made_of (of v) m c pixels;
      spans = default_spans;
      rod = λ c v regions. region_of regions 0;
      roi = λ v region clip. region;
      same = same;
    }

-- ---- what they keep

source_connected : (connected : List Bool) → AllZip MayBe source_clips connected → slice_get connected 0 ≡ Some true
source_connected [] are = elim are [ ]
source_connected (b ∷ connected) are = ap Some (are.0 refl)

-- there is a flag for Source, which is connected
source_flag : (connected : List Bool) → length connected ≡ 1 → 0 < length connected
source_flag connected one = omega (arith, one)

-- what is asked of a pixel's making: zero stays zero, the depth and the components stay, and where the effect is the
-- same as a clip the pixel stays
pub record IsMaking (s : Shape) (of : Values → ℕ → Pixel → Pixel) (same : Values → Bounds → Identity) : Type 0 where
  pub zero_stays : (context : Context) (v : Values) (m : ℕ) (c : Components)
      → IsLawfulIn s context v → of v m (clear c) ≡ clear c
  pub of_depth : (context : Context) (v : Values) (depth : Depth) (p : Pixel)
      → IsLawfulIn s context v → IsTrue (supports s depth (components_of p)) → IsOfDepth depth p
      → IsOfDepth depth (of v (greatest depth) p)
  pub components : (v : Values) (m : ℕ) (p : Pixel) → components_of (of v m p) ≡ components_of p
  pub source : (context : Context) (v : Values) (window : Bounds) (clip : ℕ) (frame : ℤ)
      → IsLawfulIn s context v → same v window ≡ Same clip frame → (clip ≡ 0) × (frame ≡ v.frame)
  pub stays : (context : Context) (v : Values) (window : Bounds) (clip : ℕ) (frame : ℤ) (depth : Depth) (p : Pixel)
      → IsLawfulIn s context v → same v window ≡ Same clip frame → IsTrue (supports s depth (components_of p))
      → IsOfDepth depth p → of v (greatest depth) p ≡ p

module _ (label : List ℕ) (depths : List Depth) (cs : List Components) (safety : Safety) (params : List ParamDef)
    (of : Values → ℕ → Pixel → Pixel) (same : Values → Bounds → Identity) where
  abbrev shape : Shape
  shape = source_shape label depths cs false safety params

  abbrev meaning : Meaning
  meaning = point_effect shape of same

  one_flag : (context : Context) (v : Values) → IsLawfulIn shape context v → length v.connected ≡ 1
  one_flag context v lawful = flag_for_each source_clips v.connected lawful.connected

  point_covers : (context : Context) (v : Values) (r : Bounds) (x y : ℤ) → IsLawfulIn shape context v → Holds r x y
      → All (IsCovered (length v.connected) (default_spans v) (λ clip. r)) (tap 0 v.frame x y ∷ [])
  point_covers context v r x y lawful inside =
      All-cons (IsCovered (length v.connected) (default_spans v) (λ clip. r)) (tap 0 v.frame x y) []
      (covered_here (length v.connected) 0 v r x y (source_flag v.connected (one_flag context v lawful)) inside)
      (All-nil (IsCovered (length v.connected) (default_spans v) (λ clip. r)))

  point_supported : (context : Context) (v : Values) (depth : Depth) (c : Components) (value : Tap → Pixel) (t : Tap)
      → t.clip ≡ 0 → IsGiven shape context v depth c value → components_of (value t) ≡ c
  point_supported context v depth c value t is given = given.components_are t ∙ ap (seen_as shape context c) is

  point_pixel : IsMaking shape of same
      → (context : Context) (v : Values) (depth : Depth) (c : Components) (value : Tap → Pixel) (x y : ℤ)
      → IsGiven shape context v depth c value
      → IsOfDepth depth (of v (greatest depth) (value (tap 0 v.frame x y)))
      × (components_of (of v (greatest depth) (value (tap 0 v.frame x y))) ≡ c)
  point_pixel making context v depth c value x y given =
      let t = tap 0 v.frame x y in
      let seen : components_of (value t) ≡ c = point_supported context v depth c value t refl given in (
        making.of_depth context v depth (value t) given.lawful
            (subst (λ k. IsTrue (supports shape depth k)) (sym seen) given.supported) (given.depth_is t),
        making.components v (greatest depth) (value t) ∙ seen,
      )

  point_same : IsMaking shape of same
      → (context : Context) (v : Values) (window : Bounds) (clip : ℕ) (frame : ℤ) (depth : Depth) (c : Components)
      (value : Tap → Pixel) → IsGiven shape context v depth c value → same v window ≡ Same clip frame
      → IsSameAs meaning context v depth c value window clip frame
  point_same making context v window clip frame depth c value given is =
      let at = making.source context v window clip frame given.lawful is in
      record {
        connected = ap (slice_get v.connected) at.0 ∙ source_connected v.connected given.lawful.connected;
        no_mask = ap (λ k. is_mask (slice_index_or (clip_names shape context) k [])) at.0;
        pixels = λ x y inside.
            let t = tap 0 v.frame x y in
            let seen : components_of (value t) ≡ c = point_supported context v depth c value t refl given in
            making.stays context v window clip frame depth (value t) given.lawful is
            (subst (λ k. IsTrue (supports shape depth k)) (sym seen) given.supported) (given.depth_is t)
            ∙ ap (λ k. value (tap k v.frame x y)) (sym at.0) ∙ ap (λ f. value (tap clip f x y)) (sym at.1);
        read = λ x y inside.
            (0, omega arith, ap (λ k. tap k v.frame x y) (sym at.0) ∙ ap (λ f. tap clip f x y) (sym at.1));
      }

  pub point_laws : IsShape shape → IsMaking shape of same → Laws meaning
  point_laws is making =
      record {
        shape = is;
        interest_holds_taps = point_covers;
        zero_outside_region =
            λ context v regions depth c value x y given are zeros outside. ap (of v (greatest depth))
            (zeros (tap 0 v.frame x y) outside) ∙ making.zero_stays context v (greatest depth) c given.lawful;
        identity_is_tap = point_same making;
        frames_near = λ context v clip lawful. default_spans_near v clip;
        region_near = λ context v regions n lawful are up_to. region_near n 0 v.project regions up_to;
        interest_near = λ context v r clip n lawful rect up_to. second_near n v.project r up_to;
        region_is_rect = λ context v regions lawful are. region_is_rect 0 v regions are;
        interest_is_rect = λ context v r clip lawful rect. rect;
        pixel = point_pixel making;
        whole_within_project = λ context v regions whole lawful are. absurd cc;
      }
