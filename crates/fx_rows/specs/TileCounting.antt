-- Effects of the tests, one of each thread safety, that leave each pixel as it is.
use Rattle.std.specs.Prelude.{◌≡◌, ◌<◌, ℕ, false, List, [], ◌∷◌, pos, codes, refl}
use Rattle.std.proofs.Common.{arith}
use Rattle.fx_base.specs.Bounds.{Bounds}
use Rattle.fx_pixel.specs.declared.Depth.TheVariants as depths
use Rattle.fx_pixel.specs.declared.Components.TheVariants as components
use Rattle.fx_params.specs.declared.def.ParamDef.{ParamDef}
use Rattle.fx_params.specs.Def.{int_def}
use Rattle.fx_effect.specs.Shape.{Shape}
use Rattle.fx_effect.specs.ShapeTests.{shape_is}
use Rattle.fx_effect.specs.Meaning.{Meaning}
use Rattle.fx_effect.specs.Laws.{Laws}
use Rattle.fx_effect.specs.Source.{source_shape, point_effect, point_laws, IsMaking}
use Rattle.fx_effect.specs.declared.action.Identity.TheVariants.{No}
use Rattle.fx_effect.specs.declared.action.Safety.{Safety}
use Rattle.fx_effect.specs.declared.action.Safety.TheVariants.{Unsafe, InstanceSafe, FullySafe}

-- which of two instances it is
abbrev pub counted_params : List ParamDef
counted_params = int_def (codes "instance") (pos 0) (pos 1) (pos 0) ∷ []

abbrev pub counted_shape : Safety → Shape
counted_shape safety =
    source_shape (codes "counted") (depths.Byte ∷ []) (components.Rgba ∷ []) false safety counted_params

abbrev pub counted : Safety → Meaning
counted safety = point_effect (counted_shape safety) (λ v m p. p) (λ v window. No)

abbrev pub counted_name : Safety → List ℕ
counted_name Unsafe = codes "unsafe"
counted_name InstanceSafe = codes "instance"
counted_name FullySafe = codes "fully"

abbrev pub counted_number : Safety → ℕ
counted_number Unsafe = 0
counted_number InstanceSafe = 1
counted_number FullySafe = 2

-- the tile of the picture that is shown alone
abbrev pub lone_tile : Bounds
lone_tile = record { x1 = pos 2; y1 = pos 4; x2 = pos 4; y2 = pos 6 }

-- ---- its laws

making : (safety : Safety) → IsMaking (counted_shape safety) (λ v m p. p) (λ v window. No)
making safety =
    record {
      zero_stays = λ context v m c lawful. refl;
      of_depth = λ context v depth p lawful supported is. is;
      components = λ v m p. refl;
      source = λ context v window clip frame lawful is. absurd cc;
      stays = λ context v window clip frame depth p lawful is supported of_depth. refl;
    }

pub counted_laws : (safety : Safety) → Laws (counted safety)
counted_laws safety =
    point_laws (codes "counted") (depths.Byte ∷ []) (components.Rgba ∷ []) safety counted_params (λ v m p. p)
    (λ v window. No) (shape_is (counted_shape safety) refl) (making safety)

pub few_counted : (safety : Safety) → counted_number safety < 64
few_counted Unsafe = omega arith
few_counted InstanceSafe = omega arith
few_counted FullySafe = omega arith

-- what two effects of one number are is the same
pub same_safety : {A : Type 0} (f : Safety → A) (a b : Safety) → counted_number a ≡ counted_number b → f a ≡ f b
same_safety f Unsafe Unsafe e = refl
same_safety f InstanceSafe InstanceSafe e = refl
same_safety f FullySafe FullySafe e = refl
same_safety f Unsafe InstanceSafe e = absurd (omega (arith, e))
same_safety f Unsafe FullySafe e = absurd (omega (arith, e))
same_safety f InstanceSafe Unsafe e = absurd (omega (arith, e))
same_safety f InstanceSafe FullySafe e = absurd (omega (arith, e))
same_safety f FullySafe Unsafe e = absurd (omega (arith, e))
same_safety f FullySafe InstanceSafe e = absurd (omega (arith, e))
