use Rattle.std.proofs.Common.{◌≡◌, ◌≢◌, ◌<◌, ℤ, pos, ◌+ℤ◌, ap, below_more, arith, ◌∙◌, if◌then◌else◌, w64, to_z, of_z, FitsSigned}
use Rattle.std.specs.Int.{int_gap}
use Rattle.std.proofs.lemmas.Int.{to_z-of_z}
use Rattle.fx_base.specs.Rect.{columns, within}
use Rattle.fx_pixel.specs.Pixel.{zero}
use Rattle.fx_image.specs.Stored.{pixel_size}
use Rattle.fx_image.proofs.RowsLaws.{rows_apart}
use Rattle.fx_image.proofs.ImageLaws.{gap_is, gap_below, place_from}
use Rattle.fx_effect.proofs.PieceLaws.{is_wide, column_is, column_fits, place_fits}
use Rattle.fx_effect.proofs.places.PlaceRows.fill_each.Goals as goal

pub loop-i-preserved : goal.loop-i-preserved
loop-i-preserved g c =
    let rect = c.args.rect in
    let i = c.loop-i.i in
    let there = rw c.pixel-p.ensures.components at c.set_pixel.ensures.there in
    let others = rw c.pixel-p.ensures.components at c.set_pixel.ensures.others in
    let y = to_z w64 (of_z w64 c.args.y) in
    let wide = is_wide rect c.requires.row.bounds in
    let whole = gap_is rect.x1 rect.x2 wide in
    let column : to_z w64 (of_z w64 (to_z w64 (of_z w64 c.rect.inside.x1) +ℤ to_z w64 i)) ≡ rect.x1 +ℤ pos i = column_is rect.x1 rect.x2 (to_z w64 (of_z w64 c.rect.inside.x1)) i c.requires.row.near.left c.requires.row.near.right c.loop-i.invariant.left_is whole (omega (arith, c.loop-i-test.true, c.loop-i.invariant.until)) in
    let k = c.args.self.now in
    let at : ℤ → _ = λ z. if within k.project z y then g.K.PlaceKernel.of k.kernel.now c.args.depth c.args.components z y else zero c.args.components in
    record {
      until = c.loop-i.invariant.until;
      left_is = c.loop-i.invariant.left_is;
      done = below_more _ _
          (λ k low. let other : k ≢ c.loop-i.i = omega arith in others k other ∙ c.loop-i.invariant.done k low)
          (there ∙ c.pixel-p.ensures.value ∙ ap at column);
    }

pub returns : goal.returns
returns g c x inside =
    let rect = c.args.rect in
    let place = place_from rect x c.args.y inside in
    let row : FitsSigned w64 c.args.y = c.ranges.y in
    let below = gap_below rect.x1 x rect.x2 place.left place.right in
    let low : int_gap rect.x1 x < c.loop-i.i = omega (arith, c.loop-i.invariant.until, c.loop-i-test.false, below) in
    let done = simp to_z-of_z at c.loop-i.invariant.done in
    let k = c.args.self.now in
    done (int_gap rect.x1 x) low ∙ ap (λ z. if within k.project z c.args.y then g.K.PlaceKernel.of k.kernel.now c.args.depth c.args.components z c.args.y else zero c.args.components) (gap_is rect.x1 x place.left)

pub overflow_cast-i : goal.overflow_cast-i
overflow_cast-i g c =
    let rect = c.args.rect in
    place_fits rect.x1 rect.x2 c.loop-i.i c.requires.row.near.left c.requires.row.near.right (gap_is rect.x1 rect.x2 (is_wide rect c.requires.row.bounds)) (omega (arith, c.loop-i-test.true, c.loop-i.invariant.until))

pub overflow_add-left : goal.overflow_add-left
overflow_add-left g c =
    let rect = c.args.rect in
    column_fits rect.x1 rect.x2 (to_z w64 (of_z w64 c.rect.inside.x1)) c.loop-i.i c.requires.row.near.left c.requires.row.near.right c.loop-i.invariant.left_is (gap_is rect.x1 rect.x2 (is_wide rect c.requires.row.bounds)) (omega (arith, c.loop-i-test.true, c.loop-i.invariant.until))

pub set_pixel-requires-clause-room : goal.set_pixel-requires-clause-room
set_pixel-requires-clause-room g c =
    let size = pixel_size c.args.depth c.args.components in
    let apart = rows_apart c.loop-i.i (columns c.args.rect) size (omega (arith, c.loop-i-test.true, c.loop-i.invariant.until)) in
    rw c.pixel-p.ensures.components (omega (arith, apart, c.loop-i.auto.row, c.requires.row.long))
