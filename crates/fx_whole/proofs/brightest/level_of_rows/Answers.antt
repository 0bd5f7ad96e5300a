use Rattle.std.proofs.Common.{◌≡◌, ◌<◌, ◌*◌, ◌∙◌, max, pos, ◌+ℤ◌, ap, subst, arith, refl, w64, to_z, of_z, FitsSigned, rules}
use Rattle.std.proofs.lemmas.Int.{ints, to_z-of_z}
use Rattle.fx_base.specs.Bounds.{Bounds}
use Rattle.fx_base.specs.Rect.{rows}
use Rattle.fx_image.specs.Stored.{pixel_size}
use Rattle.fx_effect.specs.Given.{row_pixel}
use Rattle.fx_effect.specs.Rows.{ShowsRow}
use Rattle.fx_whole.specs.Level.{row_level}
use Rattle.fx_whole.proofs.LevelLaws.{is_level, level_more}
use Rattle.fx_whole.proofs.brightest.level_of_rows.Goals as goal

pub loop-j-init : goal.loop-j-init
loop-j-init c =
    let a : FitsSigned w64 c.project.inside.y1 = search rules in
    let b : FitsSigned w64 c.project.inside.y2 = search rules in
    let high = simp to_z-of_z at c.offset-j-end.ensures in
    record {
      until = rw (← c.project.view_is) high;
      low_is = to_z-of_z w64 c.project.inside.y1 a ∙ ap (λ (r : Bounds). r.y1) c.project.view_is;
      level = refl;
    }

pub overflow_add-y : goal.overflow_add-y
overflow_add-y c =
    let inv = c.loop-j.invariant in
    let j = c.loop-j.j in
    let less : j < rows c.args.project = omega (arith, inv.until, c.loop-j-test.true) in
    let at = is_level c.args.project (to_z w64 (of_z w64 c.project.inside.y1)) j c.requires.project inv.low_is less in
    rw at.few at.fits

pub lend_row-line-requires-clause-clip : goal.lend_row-line-requires-clause-clip
lend_row-line-requires-clause-clip c = c.requires.source.there

pub lend_row-line-requires-clause-row : goal.lend_row-line-requires-clause-row
lend_row-line-requires-clause-row c =
    let inv = c.loop-j.invariant in
    let j = c.loop-j.j in
    let p = c.args.project in
    let src = c.requires.source in
    let less : j < rows p = omega (arith, inv.until, c.loop-j-test.true) in
    let y = to_z w64 (of_z w64 c.project.inside.y1) in
    let at = is_level p y j c.requires.project inv.low_is less in
    let level : to_z w64 (of_z w64 (y +ℤ to_z w64 j)) ≡ p.y1 +ℤ pos j = rw at.few (to_z-of_z w64 (y +ℤ pos j) at.fits ∙ ap (λ z. z +ℤ pos j) inv.low_is) in
    let left = c.requires.project.left in
    let right = c.requires.project.wide.0 in
    rw (src.depth_is, src.components_are) (record {
      wide = omega (arith, ints, left, right);
      above = omega (arith, ints, level, at.above);
      below = omega (arith, ints, level, at.below);
      long = c.loop-j.auto.bytes ∙ c.requires.bytes ∙ ap (λ w. w * pixel_size c.args.depth c.args.components) c.requires.width;
    })

pub brighter-level-requires : goal.brighter-level-requires
brighter-level-requires c = c.lend_row-line.ensures.long ∙ c.loop-j.auto.bytes ∙ c.requires.bytes

pub loop-j-preserved : goal.loop-j-preserved
loop-j-preserved c =
    let inv = c.loop-j.invariant in
    let j = c.loop-j.j in
    let p = c.args.project in
    let d = c.args.depth in
    let s = c.args.components in
    let given = c.args.inputs.now in
    let src = c.requires.source in
    let frame = to_z w64 (of_z w64 c.args.frame) in
    let less : j < rows p = omega (arith, inv.until, c.loop-j-test.true) in
    let y = to_z w64 (of_z w64 c.project.inside.y1) in
    let at = is_level p y j c.requires.project inv.low_is less in
    let level : to_z w64 (of_z w64 (y +ℤ to_z w64 j)) ≡ p.y1 +ℤ pos j = rw at.few (to_z-of_z w64 (y +ℤ pos j) at.fits ∙ ap (λ z. z +ℤ pos j) inv.low_is) in
    let left = c.requires.project.left in
    let right = c.requires.project.wide.0 in
    let row = c.lend_row-line.result.now in
    let shown : ShowsRow d s p (to_z w64 (of_z w64 (y +ℤ to_z w64 j))) (row_pixel given 0 frame) row = rw (← src.depth_is, ← src.components_are) c.lend_row-line.ensures.shows in
    record {
      until = inv.until;
      low_is = inv.low_is;
      level =
          c.brighter-level.ensures ∙ ap (λ m. max m (row_level d s row c.args.width)) inv.level
          ∙ level_more given frame d s p j c.args.width row (omega (arith, ints, left, right)) at.above at.below c.requires.width
          (subst (λ z. ShowsRow d s p z (row_pixel given 0 frame) row) level shown);
    }
