use Rattle.std.proofs.Common.{◌≡◌, None}
use Rattle.fx_pixel.specs.declared.Components.TheVariants.{Rgba}
use Rattle.fx_speed.proofs.paint.paint_frames.Given as goal

abbrev pub invariant-loop : goal.invariant-loop
invariant-loop g l =
    record {
      depth : l.image.depth ≡ l.fn.depth;
      components : l.image.components ≡ Rgba;
      hold : l.hold.gate ≡ None;
    }
