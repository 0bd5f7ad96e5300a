-- An effect of the tests: a generator of zero.
use Rattle.std.specs.Prelude.{◌<◌, true, false, [], ◌∷◌, codes, refl}
use Rattle.std.proofs.Common.{arith}
use Rattle.fx_pixel.specs.declared.Depth.TheVariants as depths
use Rattle.fx_pixel.specs.declared.Components.TheVariants as components
use Rattle.fx_pixel.specs.Pixel.{zero}
use Rattle.fx_pixel.specs.PixelLaws.{zero_form}
use Rattle.fx_effect.specs.Shape.{Shape}
use Rattle.fx_effect.specs.ShapeTests.{shape_is}
use Rattle.fx_effect.specs.Generator.{generator_effect, generator_laws, IsGenerating}
use Rattle.fx_effect.specs.Meaning.{Meaning}
use Rattle.fx_effect.specs.Laws.{Laws}
use Rattle.fx_effect.specs.declared.action.Context.TheVariants as context
use Rattle.fx_effect.specs.declared.action.Safety.TheVariants.{Unsafe}

abbrev pub toy_shape : Shape
toy_shape =
    record {
      label = codes "toy";
      contexts = context.Generator ∷ [];
      depths = depths.Byte ∷ [];
      components = components.Rgba ∷ components.Alpha ∷ [];
      temporal = false;
      tiles = true;
      safety = Unsafe;
      clips = λ c. [];
      params = λ c. [];
    }

abbrev pub toy : Meaning
toy = generator_effect toy_shape (λ v c m x y. zero c)

makes : IsGenerating toy_shape (λ v c m x y. zero c)
makes =
    record {
      depth = λ context v depth c x y lawful supported. (zero_form depth c).0;
      components = λ v m c x y. (zero_form depths.Byte c).1;
    }

pub toy_laws : Laws toy
toy_laws = generator_laws toy_shape (λ v c m x y. zero c) (shape_is toy_shape refl) refl makes

pub few_toys : 3 < 64
few_toys = omega arith
