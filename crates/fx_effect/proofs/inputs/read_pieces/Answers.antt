use Rattle.std.proofs.Common.{◌∙◌, map, w64, FitsSigned}
use Rattle.std.proofs.lemmas.Int.{to_z-of_z}
use Rattle.fx_effect.specs.Tap.{tap}
use Rattle.fx_effect.specs.Placed.{given_piece}
use Rattle.std.specs.Int.{int_gap}
use Rattle.fx_effect.proofs.RunLaws.{cleared, over_held, over_zero}
use Rattle.fx_effect.proofs.inputs.read_pieces.Goals as goal

pub returns-then-cover_row : goal.returns-then-cover_row
returns-then-cover_row c x inside =
    let y : FitsSigned w64 c.args.y = c.ranges.y in
    let time : FitsSigned w64 c.args.frame = c.ranges.frame in
    let painted = simp to_z-of_z at c.paint_pieces.ensures in
    let covered = simp to_z-of_z at (c.cover_row.ensures c.if-cover_row.true) in
    painted x inside ∙ over_held c.args.depth c.args.components (map given_piece c.args.pieces.now) (tap c.args.clip c.args.frame x c.args.y) _ (covered x inside)

pub returns-else-cover_row : goal.returns-else-cover_row
returns-else-cover_row c x inside =
    let y : FitsSigned w64 c.args.y = c.ranges.y in
    let time : FitsSigned w64 c.args.frame = c.ranges.frame in
    let painted = simp to_z-of_z at c.paint_pieces-else-cover_row.ensures in
    let t = tap c.args.clip c.args.frame x c.args.y in
    painted x inside ∙ rw (cleared c.args.depth c.args.components _ (int_gap c.args.rect.x1 x) c.clear.ensures) (over_zero c.args.depth c.args.components (map given_piece c.args.pieces.now) t)
