use Rattle.std.proofs.Common.{w64, FitsSigned, rules}
use Rattle.std.proofs.lemmas.Int.{to_z-of_z}
use Rattle.fx_effect.proofs.PieceLaws.{covers_from}
use Rattle.fx_effect.proofs.piece.covers_row.Goals as goal

pub returns : goal.returns
returns c h =
    let a : FitsSigned w64 c.have.inside.x1 = search rules in
    let b : FitsSigned w64 c.have.inside.x2 = search rules in
    let d : FitsSigned w64 c.have.inside.y1 = search rules in
    let e : FitsSigned w64 c.have.inside.y2 = search rules in
    let f : FitsSigned w64 c.rect.inside.x1 = search rules in
    let i : FitsSigned w64 c.rect.inside.x2 = search rules in
    let j : FitsSigned w64 c.args.y = c.ranges.y in
    let covers = simp to_z-of_z at h in
    rw (← c.have.view_is, ← c.rect.view_is) (covers_from _ _ c.args.y c.rect.invariant covers)
