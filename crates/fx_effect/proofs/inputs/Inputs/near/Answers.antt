use Rattle.std.proofs.Common.{◌∙◌, ap, map, w64, FitsSigned}
use Rattle.std.proofs.lemmas.Int.{to_z-of_z}
use Rattle.fx_effect.specs.Given.{Given, pieces_pixel}
use Rattle.fx_effect.specs.Placed.{given_piece}
use Rattle.fx_effect.proofs.inputs.Inputs.near.Goals as goal

pub returns-clause-pixels : goal.returns-clause-pixels
returns-clause-pixels c depth k x inside =
    let frame : FitsSigned w64 c.args.frame = c.ranges.frame in
    let row : FitsSigned w64 c.args.y = c.ranges.y in
    let near = simp to_z-of_z at c.near_row.ensures.pixels in
    let rows = simp to_z-of_z at c.pieces_in_row-pieces.ensures.pixels in
    near depth k x inside ∙ rows depth k x
    ∙ ap (λ ps. pieces_pixel depth k (map given_piece ps) c.args.clip c.args.frame x c.args.y) c.as_slice.ensures.value
    ∙ ap (λ (g : Given). pieces_pixel depth k g.pieces c.args.clip c.args.frame x c.args.y) c.self.view_is
