use Rattle.std.proofs.Common.{◌≡◌, ◌∙◌, subst, if◌then◌else◌, w64, FitsSigned}
use Rattle.std.specs.Int.{int_gap}
use Rattle.std.proofs.lemmas.Int.{to_z-of_z}
use Rattle.fx_base.specs.Bounds.{Bounds}
use Rattle.fx_base.specs.Rect.{within}
use Rattle.fx_image.specs.Stored.{Stored, pixel_in}
use Rattle.fx_effect.specs.Given.{image_pixel}
use Rattle.fx_effect.proofs.piece.Placed.paint_both.Goals as goal

pub returns-in-Frame : goal.returns-in-Frame
returns-in-Frame c x inside = let y : FitsSigned w64 c.args.y = c.ranges.y in rw c.in-Frame.is ((simp to_z-of_z at c.paint_view.ensures) x inside)

pub returns-in-Tile : goal.returns-in-Tile
returns-in-Tile c x inside =
    let row : FitsSigned w64 c.args.y = c.ranges.y in
    let d = c.args.depth in
    let k = c.args.components in
    let i = int_gap c.args.rect.x1 x in
    let P : Stored → Bounds → Type 0 =
    λ s r. pixel_in d k c.paint_view-in-Tile.new.row i ≡ (if within r x c.args.y then image_pixel d k s c.in-Tile.through x c.args.y else pixel_in d k c.args.row.now i) in
    let painted : P c.view-view.result.image.now c.view-view.result.rect = (simp to_z-of_z at c.paint_view-in-Tile.ensures) x inside in
    rw c.in-Tile.is
    (subst (λ s. P s c.in-Tile.cut) (c.view-view.ensures.value ∙ c.deref.ensures) (subst (P c.view-view.result.image.now) c.view-view.ensures.rect painted))
