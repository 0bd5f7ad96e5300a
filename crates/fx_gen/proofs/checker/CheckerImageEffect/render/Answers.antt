use Rattle.std.proofs.Common.{w64, FitsSigned, rules}
use Rattle.std.proofs.lemmas.Int.{to_z-of_z}
use Rattle.fx_gen.proofs.checker.CheckerImageEffect.render.Goals as goal

pub returns-clause-ok : goal.returns-clause-ok
returns-clause-ok c =
    let level : FitsSigned w64 c.number.result = search rules in
    let size : FitsSigned w64 c.number-2.result = search rules in
    let size_is = rw c.number-2.ensures at (simp to_z-of_z at c.of-squares.ensures.size) in
    let scale_is = rw (c.depth.ensures, c.number.ensures) at (simp to_z-of_z at c.scale-light.ensures.value) in
    let light_is = rw scale_is at c.of-squares.ensures.light in
    rw (size_is, light_is) at c.fill_places.ensures.written
