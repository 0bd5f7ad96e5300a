use Rattle.std.proofs.Common.{w64, FitsSigned, rules}
use Rattle.std.proofs.lemmas.Int.{to_z-of_z}
use Rattle.fx_point.proofs.gain.GainImageEffect.render.Goals as goal

pub returns-clause-ok : goal.returns-clause-ok
returns-clause-ok c =
    let frame : FitsSigned w64 c.args.values.now.frame = search rules in
    let level : FitsSigned w64 c.number-level.result = search rules in
    rw c.number-level.ensures at (simp to_z-of_z at c.fill_points.ensures.written)
