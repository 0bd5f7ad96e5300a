use Rattle.std.proofs.Common.{false, true, [], ◌∷◌, codes}
use Rattle.fx_pixel.specs.declared.Depth.TheVariants as depths
use Rattle.fx_effect.specs.Shape.{Shape}
use Rattle.fx_effect.specs.declared.action.Context.TheVariants as context
use Rattle.fx_effect.specs.declared.action.Safety.TheVariants.{FullySafe}
use Rattle.fx_units.proofs.effect.a_filter_describes_itself.Goals as goal

abbrev inverts : Shape
inverts =
    record {
      label = codes "Invert";
      contexts = context.Filter ∷ context.General ∷ [];
      depths = depths.Byte ∷ depths.Short ∷ [];
      components = [];
      temporal = false;
      tiles = true;
      safety = FullySafe;
      clips = λ c. [];
      params = λ c. [];
    }

pub write-requires : goal.write-requires
write-requires g c = rw c.expect-set.ensures at (c.descriptor.ensures inverts)
