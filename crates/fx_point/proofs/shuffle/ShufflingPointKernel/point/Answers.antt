use Rattle.std.proofs.Common.{subst}
use Rattle.fx_pixel.specs.declared.Pixel.TheVariants.{Rgba}
use Rattle.fx_pixel.specs.Pixel.{IsOfDepth}
use Rattle.fx_point.specs.ShuffleLaws.{chosen_bound}
use Rattle.fx_point.proofs.shuffle.ShufflingPointKernel.point.Goals as goal

pub returns-in-Rgba-clause-depth : goal.returns-in-Rgba-clause-depth
returns-in-Rgba-clause-depth c =
    let depth = c.args._depth in
    let p = c.in-Rgba in
    let pixel : IsOfDepth depth (Rgba p.r p.g p.b p.a) = subst (IsOfDepth depth) p.is c.requires.pixel in
    rw (c.chosen.ensures, c.chosen-in-Rgba.ensures, c.chosen-in-Rgba-2.ensures, c.chosen-in-Rgba-3.ensures) (
      chosen_bound depth p.r p.g p.b p.a _ pixel,
      chosen_bound depth p.r p.g p.b p.a _ pixel,
      chosen_bound depth p.r p.g p.b p.a _ pixel,
      chosen_bound depth p.r p.g p.b p.a _ pixel,
    )
