use Rattle.std.proofs.Common.{◌≡◌, true, sym, subst, ◌∙◌, rules, w64, FitsSigned}
use Rattle.std.proofs.lemmas.Int.{to_z-of_z}
use Rattle.fx_base.specs.Rect.{within}
use Rattle.fx_effect.specs.Given.{is_for}
use Rattle.fx_effect.specs.Placed.{piece_rect, given_piece}
use Rattle.fx_effect.proofs.PieceLaws.{and_both}
use Rattle.fx_effect.proofs.piece.Placed.reach.Goals as goal

pub returns-then-is_for : goal.returns-then-is_for
returns-then-is_for c x from to =
    let frame : FitsSigned w64 c.args.frame = c.ranges.frame in
    let y : FitsSigned w64 c.args.y = c.ranges.y in
    let left : FitsSigned w64 c.args.reach = c.ranges.reach in
    let same : is_for (given_piece c.args.self.now) c.args.clip c.args.frame ≡ true = sym (simp to_z-of_z at c.is_for.ensures) ∙ c.if-is_for.true in
    let ends : FitsSigned w64 c.reach_of.result = search rules in
    let reached = simp to_z-of_z at c.reach_of.ensures in
    let here : within (piece_rect c.args.self.now.piece) x c.args.y ≡ true = subst (λ r. within r x c.args.y ≡ true) c.rect.ensures (reached x from (simp to_z-of_z at to)) in
    and_both _ _ same here
