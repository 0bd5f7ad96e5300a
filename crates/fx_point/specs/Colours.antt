-- Point effects that make r, g and b anew and keep a, and what they share.
use Rattle.std.specs.Prelude.{◌≡◌, ◌≤◌, ℕ, ℤ, Bool, true, false, List, IsTrue, if◌then◌else◌, refl}
use Rattle.std.proofs.Common.{ap}
use Rattle.fx_pixel.specs.declared.Depth.{Depth}
use Rattle.fx_pixel.specs.declared.Components.{Components}
use Rattle.fx_pixel.specs.declared.Components.TheVariants as components
use Rattle.fx_pixel.specs.declared.Pixel.{Pixel}
use Rattle.fx_pixel.specs.declared.Pixel.TheVariants.{Rgba, Alpha}
use Rattle.fx_pixel.specs.Pixel.{greatest, zero as clear, IsOfDepth, components_of}
use Rattle.fx_params.specs.declared.def.ParamDef.{ParamDef}
use Rattle.fx_effect.specs.Shape.{Shape, IsShape, IsLawfulIn, supports}
use Rattle.fx_effect.specs.Laws.{Laws}
use Rattle.fx_effect.specs.Source.{source_shape, point_effect, IsMaking, point_laws}
use Rattle.fx_effect.specs.declared.action.Context.{Context}
use Rattle.fx_effect.specs.declared.action.Identity.{Identity}
use Rattle.fx_effect.specs.declared.action.Identity.TheVariants.{Same, No}
use Rattle.fx_effect.specs.declared.action.Safety.TheVariants.{FullySafe}
use Rattle.fx_effect.specs.declared.values.Values.{Values}

-- each of r, g and b is made anew of a and itself, and a is kept
abbrev pub with_colours : (ℕ → ℕ → ℕ) → Pixel → Pixel
with_colours of (Rgba r g b a) = Rgba (of a r) (of a g) (of a b) a
with_colours of (Alpha a) = Alpha a

-- the same as Source at the current frame where the test holds, and as nothing else
abbrev pub source_where : Bool → Values → Identity
source_where test v = if test then Same 0 v.frame else No

-- ---- what holds of them

pub colours_of_depth : (depth : Depth) (of : ℕ → ℕ → ℕ) (p : Pixel)
    → ((a c : ℕ) → a ≤ greatest depth → c ≤ greatest depth → of a c ≤ greatest depth) → IsOfDepth depth p
    → IsOfDepth depth (with_colours of p)
colours_of_depth depth of (Rgba r g b a) bound is =
    (bound a r is.3 is.0, bound a g is.3 is.1, bound a b is.3 is.2, is.3)
colours_of_depth depth of (Alpha a) bound is = is

pub colours_components : (of : ℕ → ℕ → ℕ) (p : Pixel) → components_of (with_colours of p) ≡ components_of p
colours_components of (Rgba r g b a) = refl
colours_components of (Alpha a) = refl

pub colours_clear : (of : ℕ → ℕ → ℕ) (c : Components) → of 0 0 ≡ 0 → with_colours of (clear c) ≡ clear c
colours_clear of components.Rgba none = ap (λ x. Rgba x x x 0) none
colours_clear of components.Alpha none = refl

pub colours_stay : (depth : Depth) (of : ℕ → ℕ → ℕ) (p : Pixel)
    → ((a c : ℕ) → c ≤ greatest depth → of a c ≡ c) → IsOfDepth depth p → with_colours of p ≡ p
colours_stay depth of (Rgba r g b a) same is =
    let red = same a r is.0 in
    let green = same a g is.1 in
    let blue = same a b is.2 in
    cc
colours_stay depth of (Alpha a) same is = refl

-- what a test means that decides the identity
pub source_if : (test : Bool) (v : Values) (clip : ℕ) (frame : ℤ) → source_where test v ≡ Same clip frame
    → IsTrue test × (clip ≡ 0) × (frame ≡ v.frame)
source_if true v clip frame is = (refl, cc, cc)
source_if false v clip frame is = absurd cc

-- What is asked of a pixel's making that leaves the pixel where the test holds: zero stays zero, and the depth and the
-- components stay.
pub record IsMakingBut (s : Shape) (of : Values → ℕ → Pixel → Pixel) (test : Values → Bool) : Type 0 where
  pub zero_stays : (context : Context) (v : Values) (m : ℕ) (c : Components)
      → IsLawfulIn s context v → of v m (clear c) ≡ clear c
  pub of_depth : (context : Context) (v : Values) (depth : Depth) (p : Pixel)
      → IsLawfulIn s context v → IsTrue (supports s depth (components_of p)) → IsOfDepth depth p
      → IsOfDepth depth (of v (greatest depth) p)
  pub components : (v : Values) (m : ℕ) (p : Pixel) → components_of (of v m p) ≡ components_of p
  pub stays : (v : Values) (depth : Depth) (p : Pixel) → IsTrue (test v)
      → IsTrue (supports s depth (components_of p)) → IsOfDepth depth p → of v (greatest depth) p ≡ p

making_of : (s : Shape) (of : Values → ℕ → Pixel → Pixel) (test : Values → Bool) → IsMakingBut s of test
    → IsMaking s of (λ v window. source_where (test v) v)
making_of s of test makes =
    record {
      zero_stays = makes.zero_stays;
      of_depth = makes.of_depth;
      components = makes.components;
      source = λ context v window clip frame lawful is.
          let found = source_if (test v) v clip frame is in
          (found.1, found.2);
      stays = λ context v window clip frame depth p lawful is.
          makes.stays v depth p (source_if (test v) v clip frame is).0;
    }

pub source_laws : (label : List ℕ) (depths : List Depth) (cs : List Components) (params : List ParamDef)
    (of : Values → ℕ → Pixel → Pixel) (test : Values → Bool)
    → let s = source_shape label depths cs false FullySafe params in
    IsShape s → IsMakingBut s of test → Laws (point_effect s of (λ v window. source_where (test v) v))
source_laws label depths cs params of test is makes =
    point_laws label depths cs FullySafe params of (λ v window. source_where (test v) v) is
    (making_of (source_shape label depths cs false FullySafe params) of test makes)
