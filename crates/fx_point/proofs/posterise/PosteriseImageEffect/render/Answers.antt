use Rattle.std.proofs.Common.{w64, FitsSigned, rules}
use Rattle.std.proofs.lemmas.Int.{to_z-of_z}
use Rattle.fx_point.specs.PosteriseLaws.{byte_alone}
use Rattle.fx_point.proofs.Byte.{of_byte, written_as}
use Rattle.fx_point.proofs.posterise.PosteriseImageEffect.render.Goals as goal

pub returns-clause-ok : goal.returns-clause-ok
returns-clause-ok c =
    let frame : FitsSigned w64 c.args.values.now.frame = search rules in
    let number : FitsSigned w64 c.number.result = search rules in
    let levels = rw c.number.ensures at (simp to_z-of_z at c.of-posterising.ensures.levels) in
    let image = c.args.out.now.image.now in
    let byte = byte_alone image.depth image.components c.requires.may.supported in
    written_as c.args.out.now c.fill_points.new.out _ _ (rw levels at (simp to_z-of_z at c.fill_points.ensures.written))
    (λ x y. of_byte _ image.depth _ byte)
