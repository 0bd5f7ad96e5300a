use Rattle.std.proofs.Common.{◌≡◌, ◌≢◌, ℤ, pos, ◌+ℤ◌, ap, below_more, arith, ◌∙◌, if◌then◌else◌, w64, to_z, of_z, FitsSigned}
use Rattle.std.proofs.lemmas.Int.{to_z-of_z}
use Rattle.fx_base.specs.Rect.{within}
use Rattle.fx_pixel.specs.Pixel.{zero}
use Rattle.fx_image.specs.Stored.{pixel_size, pixel_in}
use Rattle.fx_image.proofs.ImageLaws.{gap_is}
use Rattle.fx_effect.proofs.PieceLaws.{is_wide, column_is}
use Rattle.fx_move.proofs.RowFits.{left_fits, pixel_room}
use Rattle.fx_move.proofs.crop.clear_outside.Goals as goal

pub loop-i-preserved : goal.loop-i-preserved
loop-i-preserved c =
    let rect = c.args.rect in
    let i = c.loop-i.i in
    let inv = c.loop-i.invariant in
    let d = c.args.depth in
    let s = c.args.components in
    let there = rw c.kept-p.ensures.components at c.set_pixel.ensures.there in
    let others = rw c.kept-p.ensures.components at c.set_pixel.ensures.others in
    let y = to_z w64 (of_z w64 c.args.y) in
    let wide = is_wide rect c.requires.bounds in
    let whole = gap_is rect.x1 rect.x2 wide in
    let column : to_z w64 (of_z w64 (to_z w64 (of_z w64 c.rect.inside.x1) +ℤ to_z w64 i)) ≡ rect.x1 +ℤ pos i = column_is rect.x1 rect.x2 (to_z w64 (of_z w64 c.rect.inside.x1)) i c.requires.near.left c.requires.near.right inv.left_is whole (omega (arith, c.loop-i-test.true, inv.until)) in
    let old = pixel_in d s c.loop-i.row i in
    record {
      until = inv.until;
      left_is = inv.left_is;
      done = below_more _ _
          (λ k low. let other : k ≢ i = omega arith in others k other ∙ inv.done k low)
          (there ∙ c.kept-p.ensures.value ∙ ap (λ (z : ℤ). if within c.args.keep z y then old else zero s) column
          ∙ ap (λ p. if within c.args.keep (rect.x1 +ℤ pos i) y then p else zero s) (inv.rest i (omega arith)));
      rest = λ k low. let other : k ≢ i = omega arith in others k other ∙ inv.rest k (omega arith);
    }

pub returns : goal.returns
returns c i low =
    let row : FitsSigned w64 c.args.y = c.ranges.y in
    let done = simp to_z-of_z at c.loop-i.invariant.done in
    done i (omega (arith, c.loop-i.invariant.until, c.loop-i-test.false, low))

pub overflow_add-left : goal.overflow_add-left
overflow_add-left c =
    let rect = c.args.rect in
    let near = c.requires.near in
    let low = near.left in
    let high = near.right in
    let inv = c.loop-i.invariant in
    let whole = gap_is rect.x1 rect.x2 (is_wide rect c.requires.bounds) in
    left_fits rect.x1 rect.x2 (to_z w64 (of_z w64 c.rect.inside.x1)) c.loop-i.i low high inv.left_is whole (omega (arith, c.loop-i-test.true, inv.until))

pub set_pixel-requires-clause-room : goal.set_pixel-requires-clause-room
set_pixel-requires-clause-room c =
    rw c.kept-p.ensures.components (pixel_room (pixel_size c.args.depth c.args.components) c.loop-i.i _ _ (omega (arith, c.loop-i-test.true, c.loop-i.invariant.until)) (c.loop-i.auto.row ∙ c.requires.long))
