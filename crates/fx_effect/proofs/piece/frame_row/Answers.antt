use Rattle.std.proofs.Common.{◌≡◌, refl, sym, ◌∙◌, rules, w64, FitsSigned}
use Rattle.std.proofs.lemmas.Int.{to_z-of_z}
use Rattle.fx_effect.specs.Placed.{CoversRow}
use Rattle.fx_effect.specs.Given.{Keep}
use Rattle.fx_effect.proofs.PieceLaws.{not_converted}
use Rattle.fx_effect.proofs.piece.frame_row.Goals as goal

pub returns-then-covers_row : goal.returns-then-covers_row
returns-then-covers_row c =
    let image = c.args.view.now.image.now in
    let deep : image.depth ≡ c.args.depth = search rules in
    let samples : image.components ≡ c.args.components = search rules in
    let kept : Keep c.args.depth c.args.components c.args.through.now = search rules in
    let none : Keep image.depth image.components c.args.through.now = rw (deep, samples) kept in
    let covers : CoversRow c.args.view.now.rect c.args.rect c.args.y = search rules in
    let row : FitsSigned w64 c.args.y = c.ranges.y in
    let pixels = simp to_z-of_z at c.row_within.ensures.pixels in
    record {
      covers = covers;
      long = rw (← deep, ← samples) c.row_within.ensures.long;
      pixels = λ x inside. rw (← deep, ← samples) (pixels x inside ∙ sym (not_converted image.depth image.components image c.args.through.now x c.args.y refl refl none));
    }
