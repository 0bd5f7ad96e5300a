use Rattle.std.proofs.Common.{w64, FitsSigned, rules}
use Rattle.std.proofs.lemmas.Int.{to_z-of_z}
use Rattle.fx_point.proofs.shuffle.ShuffleImageEffect.render.Goals as goal

pub returns-clause-ok : goal.returns-clause-ok
returns-clause-ok c =
    let frame : FitsSigned w64 c.args.values.now.frame = search rules in
    let r : FitsSigned w64 c.number.result = search rules in
    let g : FitsSigned w64 c.number-2.result = search rules in
    let b : FitsSigned w64 c.number-3.result = search rules in
    let a : FitsSigned w64 c.number-4.result = search rules in
    rw (c.number.ensures, c.number-2.ensures, c.number-3.ensures, c.number-4.ensures)
    at (simp to_z-of_z at c.fill_points.ensures.written)
