use Rattle.std.proofs.Common.{w64, FitsSigned, rules}
use Rattle.std.proofs.lemmas.Int.{to_z-of_z}
use Rattle.fx_effect.proofs.PieceLaws.{apart_from}
use Rattle.fx_effect.proofs.piece.meets_row.Goals as goal

pub returns : goal.returns
returns c h x inside =
    let a : FitsSigned w64 c.have.inside.x1 = search rules in
    let b : FitsSigned w64 c.have.inside.x2 = search rules in
    let d : FitsSigned w64 c.have.inside.y1 = search rules in
    let e : FitsSigned w64 c.have.inside.y2 = search rules in
    let f : FitsSigned w64 c.rect.inside.x1 = search rules in
    let i : FitsSigned w64 c.rect.inside.x2 = search rules in
    let j : FitsSigned w64 c.args.y = c.ranges.y in
    let apart = simp to_z-of_z at h in
    let there = rw (← c.rect.view_is) at inside in
    rw (← c.have.view_is) (apart_from _ _ x c.args.y there apart)
