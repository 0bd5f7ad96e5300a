use Rattle.std.proofs.Common.{◌≡◌, [], ◌∷◌}
use Rattle.fx_pixel.specs.declared.Depth.TheVariants.{Byte}
use Rattle.fx_pixel.specs.declared.Components.TheVariants.{Rgba}
use Rattle.fx_speed.proofs.rows.Strips.inputs.Given as goal

abbrev pub invariant-loop-row : goal.invariant-loop-row
invariant-loop-row l =
    record {
      depth : l.inputs.depth ≡ Byte;
      components : l.inputs.components ≡ Rgba ∷ [];
    }
