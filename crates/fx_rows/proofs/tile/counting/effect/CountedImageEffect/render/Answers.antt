use Rattle.std.proofs.Common.{w64, FitsSigned, rules}
use Rattle.std.proofs.lemmas.Int.{to_z-of_z}
use Rattle.fx_rows.proofs.tile.counting.effect.CountedImageEffect.render.Goals as goal

pub returns-clause-ok : goal.returns-clause-ok
returns-clause-ok c =
    let frame : FitsSigned w64 c.args.values.now.frame = search rules in simp to_z-of_z at c.fill_points.ensures.written
