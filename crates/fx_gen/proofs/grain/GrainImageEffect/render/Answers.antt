use Rattle.std.proofs.Common.{w64, FitsSigned, rules}
use Rattle.std.proofs.lemmas.Int.{to_z-of_z}
use Rattle.fx_gen.proofs.grain.GrainImageEffect.render.Goals as goal

pub returns-clause-ok : goal.returns-clause-ok
returns-clause-ok c =
    let frame : FitsSigned w64 c.args.values.now.frame = search rules in
    let seed : FitsSigned w64 c.number.result = search rules in
    let amount : FitsSigned w64 c.number-2.result = search rules in
    let scale_is = rw (c.depth.ensures, c.number-2.ensures) at (simp to_z-of_z at c.scale.ensures.value) in
    rw (scale_is, c.number.ensures) at (simp to_z-of_z at c.fill_places.ensures.written)
