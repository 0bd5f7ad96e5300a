use Rattle.std.proofs.Common.{◌≡◌, drop}
use Rattle.fx_pixel.specs.Pixel.{IsOfDepth}
use Rattle.fx_effect.specs.Given.{converted}
use Rattle.fx_effect.proofs.steps.convert_through.Given as goal

abbrev pub invariant-loop-step : goal.invariant-loop-step
invariant-loop-step l =
    record {
      deep : IsOfDepth l.depth l.pixel;
      same : converted l.depth (drop l.step-index l.steps) l.to l.c l.pixel ≡ converted l.fn.from l.steps l.to l.c l.fn.p;
    }
