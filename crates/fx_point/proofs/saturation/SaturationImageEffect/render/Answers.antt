use Rattle.std.proofs.Common.{w64, FitsSigned, rules}
use Rattle.std.proofs.lemmas.Int.{to_z-of_z}
use Rattle.fx_point.proofs.saturation.SaturationImageEffect.render.Goals as goal

pub returns-clause-ok : goal.returns-clause-ok
returns-clause-ok c =
    let frame : FitsSigned w64 c.args.values.now.frame = search rules in
    let amount : FitsSigned w64 c.number-amount.result = search rules in
    rw c.number-amount.ensures at (simp to_z-of_z at c.fill_points.ensures.written)
