use Rattle.std.proofs.Common.{◌≡◌, ◌+◌, ◌*◌, length, map, ap, ◌∙◌, w64, to_z, of_z}
use Rattle.std.proofs.lemmas.Int.{to_z-of_z}
use Rattle.fx_base.specs.Rect.{columns}
use Rattle.fx_pixel.specs.Pixel.{count, greatest, size}
use Rattle.fx_effect.specs.Given.{input_pixel}
use Rattle.fx_effect.specs.Local.{own_taps}
use Rattle.fx_kernel.specs.Samples.{rounded, sum_of}
use Rattle.fx_kernel.specs.SumLaws.{sums_bound}
use Rattle.fx_kernel.specs.RowLaws.{shows_samples, sample_low}
use Rattle.fx_time.specs.Frameblend.{blend_reads}
use Rattle.fx_time.proofs.BlendLaws.{cell_is}
use Rattle.fx_time.proofs.WidthLaws.{cells_long}
use Rattle.fx_time.proofs.frameblend.BlendRows.blend_many.Goals as goal

pub write_means-requires-clause-small : goal.write_means-requires-clause-small
write_means-requires-clause-small c s low =
    let me = c.args.self.now in
    rw c.requires.mean (sums_bound c.sum.new.cells _ _ (2 * me.radius + 1) (greatest c.args.depth) c.sum.ensures s low)

pub returns : goal.returns
returns c =
    let me = c.args.self.now in
    let rect = c.args.rect in
    let k = c.args.components in
    let y : to_z w64 (of_z w64 c.args.y) ≡ c.args.y = to_z-of_z w64 c.args.y c.ranges.y in
    let sums = rw y at c.sum.ensures in
    let means = rw c.requires.mean at c.write_means.ensures in
    let long : length c.sum.new.cells ≡ columns rect * count k = c.sum.auto.cells ∙ c.requires.cells in
    shows_samples c.args.depth k rect c.args.y c.write_means.new.row (λ x n. rounded (sum_of n (map (input_pixel me.inputs.now) (own_taps (blend_reads me.frame me.radius) x c.args.y))) (2 * me.radius + 1))
    (λ i n low few. means (n + count k * i) (rw long (sample_low k (columns rect) i n low few)) ∙ ap (λ w. rounded w (2 * me.radius + 1)) (cell_is me.inputs.now me.frame me.radius (greatest c.args.depth) k rect c.args.y c.sum.new.cells sums long i n low few))

pub write_means-requires-clause-long : goal.write_means-requires-clause-long
write_means-requires-clause-long c =
    cells_long _ _ _ (count c.args.components) (size c.args.depth) c.requires.row.long
    (c.sum.auto.cells ∙ c.requires.cells)
