use Rattle.std.proofs.Common.{◌≡◌, false, subst, w64, FitsSigned}
use Rattle.std.proofs.lemmas.Int.{to_z-of_z}
use Rattle.fx_base.specs.Rect.{within}
use Rattle.fx_effect.specs.Given.{is_for}
use Rattle.fx_effect.specs.Placed.{piece_rect, given_piece}
use Rattle.fx_effect.proofs.PieceLaws.{and_false}
use Rattle.fx_effect.proofs.piece.Placed.meets.Goals as goal

pub returns-then-is_for-clause-apart : goal.returns-then-is_for-clause-apart
returns-then-is_for-clause-apart c apart x inside =
    let row : FitsSigned w64 c.args.y = c.ranges.y in
    let have = piece_rect c.args.self.now.piece in
    let meets = simp to_z-of_z at c.meets_row.ensures in
    let same : c.rect.result ≡ have = c.rect.ensures in
    let out : within have x c.args.y ≡ false = subst (λ r. within r x c.args.y ≡ false) same (meets apart x inside) in
    and_false (is_for (given_piece c.args.self.now) c.args.clip c.args.frame) (within have x c.args.y) out
