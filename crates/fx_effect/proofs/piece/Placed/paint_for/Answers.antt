use Rattle.std.proofs.Common.{◌≡◌, ◌∙◌, sym, w64, FitsSigned, true}
use Rattle.std.proofs.lemmas.Int.{to_z-of_z}
use Rattle.fx_effect.specs.Given.{is_for}
use Rattle.fx_effect.specs.Placed.{given_piece}
use Rattle.fx_effect.proofs.piece.Placed.paint_for.Goals as goal

pub returns-then-is_for : goal.returns-then-is_for
returns-then-is_for c x inside =
    let row : FitsSigned w64 c.args.y = c.ranges.y in
    let time : FitsSigned w64 c.args.frame = c.ranges.frame in
    let test = simp to_z-of_z at c.is_for.ensures in
    let painted = simp to_z-of_z at c.paint.ensures in
    let stands : is_for (given_piece c.args.self.now) c.args.clip c.args.frame ≡ true = sym test ∙ c.if-is_for.true in
    rw stands (painted x inside)
