use Rattle.std.proofs.Common.{◌≤ℤ◌, ◌<ℤ◌, inl, inr, ap, subst, w64, FitsSigned, rules}
use Rattle.std.proofs.lemmas.Int.{to_z-of_z}
use Rattle.fx_base.specs.Bounds.{Bounds, IsRect}
use Rattle.fx_effect.specs.Placed.{piece_rect}
use Rattle.fx_effect.proofs.RunLaws.{are_both, both_row, row_missed, from_test_low, from_test_high, to_test_low, to_test_high}
use Rattle.fx_effect.proofs.piece.Placed.paint.Goals as goal
use Rattle.fx_effect.proofs.piece.Placed.paint.Goals.{then-y-both-via-then-y-both, then-y-both-via-else-y-both+then-both-y}

pub returns-then-y-both : goal.returns-then-y-both
returns-then-y-both c x inside =
    let have = piece_rect c.args.self.now.piece in
    let rect = c.args.rect in
    let both = c.meet-both.result in
    let are = are_both c.rect.result have rect both c.meet-both.ensures.places c.rect.ensures in
    let low = ap (λ (r : Bounds). r.y1) c.both.view_is in
    let high = ap (λ (r : Bounds). r.y2) c.both.view_is in
    let p : FitsSigned w64 c.both.inside.y1 = search rules in
    let q : FitsSigned w64 c.both.inside.y2 = search rules in
    let row : FitsSigned w64 c.args.y = c.ranges.y in
    elim c.then-y-both.branch [
      | then-y-both-via-then-y-both w ↦ row_missed have rect both x c.args.y _ _ are inside (inl (to_test_low c.both.inside.y1 both.y1 c.args.y p row low w.if-y-both.true))
      | then-y-both-via-else-y-both+then-both-y w ↦ row_missed have rect both x c.args.y _ _ are inside (inr (to_test_high c.both.inside.y2 both.y2 c.args.y q row high w.if-both-y.true))
    ]

pub paint_both-requires-clause-both : goal.paint_both-requires-clause-both
paint_both-requires-clause-both c =
    let have = piece_rect c.args.self.now.piece in
    let rect = c.args.rect in
    let both = c.meet-both.result in
    let low = ap (λ (r : Bounds). r.y1) c.both.view_is in
    let high = ap (λ (r : Bounds). r.y2) c.both.view_is in
    let p : FitsSigned w64 c.both.inside.y1 = search rules in
    let q : FitsSigned w64 c.both.inside.y2 = search rules in
    let row : FitsSigned w64 c.args.y = c.ranges.y in
    let above : both.y1 ≤ℤ c.args.y = from_test_low c.both.inside.y1 both.y1 c.args.y p row low c.if-y-both.false in
    let below : c.args.y <ℤ both.y2 = from_test_high c.both.inside.y2 both.y2 c.args.y q row high c.if-both-y.false in
    simp to_z-of_z (both_row have rect both c.args.y (are_both c.rect.result have rect both c.meet-both.ensures.places c.rect.ensures) (subst IsRect c.both.view_is c.both.invariant) above below)

pub returns : goal.returns
returns c =
    let row : FitsSigned w64 c.args.y = c.ranges.y in
    simp to_z-of_z at c.paint_both.ensures
