use Rattle.std.proofs.Common.{w64, FitsSigned, rules}
use Rattle.std.proofs.lemmas.Int.{to_z-of_z}
use Rattle.fx_effect.proofs.PieceLaws.{reaches}
use Rattle.fx_effect.proofs.piece.reach_of.Goals as goal

pub returns-then-rect-reach : goal.returns-then-rect-reach
returns-then-rect-reach c x from to =
    let a : FitsSigned w64 c.rect.inside.x1 = search rules in
    let b : FitsSigned w64 c.rect.inside.x2 = search rules in
    let d : FitsSigned w64 c.rect.inside.y1 = search rules in
    let e : FitsSigned w64 c.rect.inside.y2 = search rules in
    let i : FitsSigned w64 c.args.reach = c.ranges.reach in
    let j : FitsSigned w64 c.args.y = c.ranges.y in
    let is = simp to_z-of_z at c.if-rect-reach.true in
    rw (← c.rect.view_is) (reaches _ c.args.reach x c.args.y is from (simp to_z-of_z at to))
