-- Effects that read no clip: a pixel for each place of the project's extent, and zero outside it.
use Rattle.std.specs.Prelude.{◌≡◌, ℕ, ℤ, Bool, true, false, List, [], ◌∷◌, length, IsTrue, if◌then◌else◌, refl}
use Rattle.std.proofs.Common.{inr, arith}
use Rattle.std.proofs.lemmas.Int.{ints}
use Rattle.std.proofs.lemmas.List.Elements.{All-nil}
use Rattle.fx_base.specs.Bounds.{Bounds, IsRect}
use Rattle.fx_base.specs.Rect.{within}
use Rattle.fx_pixel.specs.declared.Depth.{Depth}
use Rattle.fx_pixel.specs.declared.Depth.TheVariants as depths
use Rattle.fx_pixel.specs.declared.Components.{Components}
use Rattle.fx_pixel.specs.declared.Components.TheVariants as components
use Rattle.fx_pixel.specs.declared.Pixel.{Pixel}
use Rattle.fx_pixel.specs.Pixel.{greatest, zero as clear, IsOfDepth, components_of}
use Rattle.fx_pixel.specs.PixelLaws.{zero_form}
use Rattle.fx_params.specs.declared.def.ParamDef.{ParamDef}
use Rattle.fx_effect.specs.Shape.{Shape, IsShape, IsLawfulIn, IsProject, supports}
use Rattle.fx_effect.specs.Meaning.{Meaning}
use Rattle.fx_effect.specs.Laws.{Laws, IsCovered}
use Rattle.fx_effect.specs.Default.{default_spans}
use Rattle.fx_effect.specs.DefaultLaws.{default_spans_near, first_near, second_near}
use Rattle.fx_effect.specs.declared.action.Context.{Context}
use Rattle.fx_effect.specs.declared.action.Context.TheVariants as context
use Rattle.fx_effect.specs.declared.action.Identity.TheVariants.{No}
use Rattle.fx_effect.specs.declared.action.Safety.TheVariants.{FullySafe}
use Rattle.fx_effect.specs.declared.values.Values.{Values}

-- a generator, which is of use in the general context too
abbrev pub generator_shape : List ℕ → List ParamDef → Shape
generator_shape label params =
    record {
      label = label;
      contexts = context.Generator ∷ context.General ∷ [];
      depths = depths.Byte ∷ depths.Short ∷ [];
      components = components.Rgba ∷ components.Alpha ∷ [];
      temporal = false;
      tiles = true;
      safety = FullySafe;
      clips = λ c. [];
      params = λ c. params;
    }

-- the pixel of a place, by the components and the greatest sample
abbrev pub PlacePixels : Type 0
PlacePixels = Components → ℕ → ℤ → ℤ → Pixel

abbrev pub generated : (Values → PlacePixels) → Values → PlacePixels
generated of v c m x y = if within v.project x y then of v c m x y else clear c

abbrev pub generator_effect : Shape → (Values → PlacePixels) → Meaning
generator_effect s of =
    record {
      shape = s;
      taps = λ v x y. [];
      mix = λ v c m x y pixels. generated of v c m x y;
      spans = default_spans;
      rod = λ c v regions. v.project;
      roi = λ v region clip. region;
      same = λ v window. No;
    }

-- ---- what they keep

-- it makes pixels of the depth and the components
pub record IsGenerating (s : Shape) (of : Values → PlacePixels) : Type 0 where
  pub depth : (context : Context) (v : Values) (depth : Depth) (c : Components) (x y : ℤ)
      → IsLawfulIn s context v → IsTrue (supports s depth c) → IsOfDepth depth (of v c (greatest depth) x y)
  pub components : (v : Values) (m : ℕ) (c : Components) (x y : ℤ) → components_of (of v c m x y) ≡ c

pub project_is_rect : (r : Bounds) → IsProject r → IsRect r
project_is_rect r project =
    inr (omega (arith, ints, project.left, project.wide.0), omega (arith, ints, project.bottom, project.high.0))

-- a project that holds a pixel of the depth and components, or zero
generated_fits : (depth : Depth) (c : Components) (p : Pixel) (b : Bool) → IsOfDepth depth p → components_of p ≡ c
    → IsOfDepth depth (if b then p else clear c) × (components_of (if b then p else clear c) ≡ c)
generated_fits depth c p true deep samples = (deep, samples)
generated_fits depth c p false deep samples = zero_form depth c

clear_outside : (b : Bool) (c : Components) (p : Pixel) → (b ≡ true → ⊥) → (if b then p else clear c) ≡ clear c
clear_outside true c p outside = absurd (outside refl)
clear_outside false c p outside = refl

pub generator_laws : (s : Shape) (of : Values → PlacePixels) → IsShape s → s.tiles ≡ true → IsGenerating s of
    → Laws (generator_effect s of)
generator_laws s of is tiles makes =
    record {
      shape = is;
      interest_holds_taps =
          λ context v r x y lawful inside. All-nil (IsCovered (length v.connected) (default_spans v) (λ clip. r));
      zero_outside_region =
          λ context v regions depth c value x y given are zeros outside. clear_outside (within v.project x y) c
          (of v c (greatest depth) x y) outside;
      identity_is_tap = λ context v window clip frame depth c value given same. absurd cc;
      frames_near = λ context v clip lawful. default_spans_near v clip;
      region_near = λ context v regions n lawful are up_to. first_near n v.project regions up_to;
      interest_near = λ context v r clip n lawful rect up_to. second_near n v.project r up_to;
      region_is_rect = λ context v regions lawful are. project_is_rect v.project lawful.project;
      interest_is_rect = λ context v r clip lawful rect. rect;
      pixel = λ context v depth c value x y given.
          generated_fits depth c (of v c (greatest depth) x y) (within v.project x y)
          (makes.depth context v depth c x y given.lawful given.supported)
          (makes.components v (greatest depth) c x y);
      whole_within_project = λ context v regions whole lawful are x y inside. inside;
    }
