use Rattle.std.proofs.Common.{◌≡◌, ◌<◌, ◌+◌, ◌*◌, ◌∙◌, ℕ, ℤ, pos, negsuc, ◌+ℤ◌, ◌-ℤ◌, ◌≤ℤ◌, ◌<ℤ◌, length, ap, subst}
use Rattle.std.proofs.Common.{arith, w64, to_z, of_z}
use Rattle.std.proofs.lemmas.Int.{ints, to_z-of_z}
use Rattle.fx_base.specs.Rect.{columns, IsStep}
use Rattle.fx_pixel.specs.Pixel.{count}
use Rattle.fx_image.specs.Stored.{pixel_in}
use Rattle.fx_kernel.specs.RowLaws.{sample_low}
use Rattle.fx_effect.specs.Given.{row_pixel}
use Rattle.fx_area.specs.declared.convolve3.Factors.{Factors}
use Rattle.fx_area.specs.ConvolveRows.{factors_of, convolved_sample}
use Rattle.fx_area.proofs.ConvolveLaws.{sample_fits, convolved_row}
use Rattle.fx_area.proofs.SideLaws.{row_wide}
use Rattle.fx_area.proofs.convolve3.ConvolvedRowsRowKernel.fill_row.Goals as goal

-- the rows above and below one of a near rectangle
module _ (a y b : ℤ) (low : negsuc 1073741823 ≤ℤ a) (above : a ≤ℤ y) (below : y <ℤ b) (high : b ≤ℤ pos 1073741824) where
  above_is : to_z w64 (of_z w64 (to_z w64 (of_z w64 y) +ℤ pos 1)) ≡ y +ℤ pos 1
  above_is = omega (arith, ints, low, above, below, high)

  here_is : to_z w64 (of_z w64 y) ≡ y
  here_is = omega (arith, ints, low, above, below, high)

  below_is : to_z w64 (of_z w64 (to_z w64 (of_z w64 y) -ℤ pos 1)) ≡ y -ℤ pos 1
  below_is = omega (arith, ints, low, above, below, high)

  above_near : IsStep 2147483648 (to_z w64 (of_z w64 (to_z w64 (of_z w64 y) +ℤ pos 1)))
  above_near = (omega (arith, ints, above_is, low, above), omega (arith, ints, above_is, below, high))

  here_near : IsStep 2147483648 (to_z w64 (of_z w64 y))
  here_near = (omega (arith, ints, here_is, low, above), omega (arith, ints, here_is, below, high))

  below_near : IsStep 2147483648 (to_z w64 (of_z w64 (to_z w64 (of_z w64 y) -ℤ pos 1)))
  below_near = (omega (arith, ints, below_is, low, above), omega (arith, ints, below_is, below, high))

pub returns-clause-shows : goal.returns-clause-shows
returns-clause-shows c =
    let k = c.args.self.now in
    let v = k.values.now in
    let given = k.inputs.now in
    let m = c.requires.makes in
    let row = c.requires.row in
    let d = c.args.depth in
    let e = c.args.components in
    let rect = c.args.rect in
    let y = c.args.y in
    let low = row.near.bottom in let high = row.near.top in
    let above = row.above in let below = row.below in
    let level = to_z-of_z w64 y c.ranges.y in
    let up = above_is rect.y1 y rect.y2 low above below high in
    let down = below_is rect.y1 y rect.y2 low above below high in
    let top = c.read.new.line in
    let middle = c.read-2.new.line in
    let bottom = c.read-3.new.line in
    let f = row_pixel given 0 v.frame in
    let sample = λ (g : Factors) (q n : ℕ). convolved_sample g q d (count e) top middle bottom n in
    convolved_row v given d e rect y top middle bottom
    (subst (λ j. (i : ℕ) → i < columns rect + 2 → pixel_in d e top i ≡ f ((rect.x1 -ℤ pos 1) +ℤ pos i) j) up
    c.read.ensures)
    (subst (λ j. (i : ℕ) → i < columns rect + 2 → pixel_in d e middle i ≡ f ((rect.x1 -ℤ pos 1) +ℤ pos i) j) level
    c.read-2.ensures)
    (subst (λ j. (i : ℕ) → i < columns rect + 2 → pixel_in d e bottom i ≡ f ((rect.x1 -ℤ pos 1) +ℤ pos i) j) down
    c.read-3.ensures)
    c.convolve.new.row
    (λ i n less few.
    let s = n + count e * i in
    c.convolve.ensures s (sample_fits d e (columns rect) s (length c.args.row.now) (sample_low e (columns rect) i n less few) row.long)
    ∙ ap (λ g. sample g k.divisor s) m.1 ∙ ap (λ q. sample (factors_of v) q s) m.3)

pub read-requires-clause-wide : goal.read-requires-clause-wide
read-requires-clause-wide c =
    let row = c.requires.row in
    row_wide c.args.rect c.args.y row.bounds row.above row.below

pub read-requires-clause-row : goal.read-requires-clause-row
read-requires-clause-row c =
    let row = c.requires.row in
    above_near c.args.rect.y1 c.args.y c.args.rect.y2 row.near.bottom row.above row.below row.near.top

pub read-requires-2-clause-wide : goal.read-requires-2-clause-wide
read-requires-2-clause-wide c =
    let row = c.requires.row in
    row_wide c.args.rect c.args.y row.bounds row.above row.below

pub read-requires-2-clause-row : goal.read-requires-2-clause-row
read-requires-2-clause-row c =
    let row = c.requires.row in
    here_near c.args.rect.y1 c.args.y c.args.rect.y2 row.near.bottom row.above row.below row.near.top

pub read-requires-3-clause-wide : goal.read-requires-3-clause-wide
read-requires-3-clause-wide c =
    let row = c.requires.row in
    row_wide c.args.rect c.args.y row.bounds row.above row.below

pub read-requires-3-clause-row : goal.read-requires-3-clause-row
read-requires-3-clause-row c =
    let row = c.requires.row in
    below_near c.args.rect.y1 c.args.y c.args.rect.y2 row.near.bottom row.above row.below row.near.top
