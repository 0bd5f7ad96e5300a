use Rattle.std.proofs.Common.{◌≡◌, ◌∙◌, ◌+◌, ◌*◌, pos, ◌+ℤ◌, nat_abs, ap, sym, arith, w64, to_z, of_z, FitsSigned, rules}
use Rattle.std.proofs.lemmas.Int.{ints, to_z-of_z}
use Rattle.fx_base.specs.Bounds.{Bounds}
use Rattle.fx_base.specs.Rect.{columns}
use Rattle.fx_pixel.specs.declared.Components.{Components}
use Rattle.fx_pixel.specs.Pixel.{count, greatest}
use Rattle.fx_image.specs.Image.{pixel_at}
use Rattle.fx_image.specs.Stored.{image_of}
use Rattle.fx_kernel.specs.RowLaws.{greatest_few, shows_samples}
use Rattle.fx_kernel.specs.Samples.{each, rounded, sum_of}
use Rattle.fx_kernel.specs.SumLaws.{sums_small}
use Rattle.fx_proxy.specs.Reduced.{block}
use Rattle.fx_proxy.proofs.BlockLaws.{block_bound, in_row, sample_is, square_bound}
use Rattle.fx_proxy.proofs.ViewLaws.{beyond_zero}
use Rattle.fx_proxy.proofs.blocks.BlockRows.write.Goals as goal

pub each_sample-requires-clause-small : goal.each_sample-requires-clause-small
each_sample-requires-clause-small c =
    let few = c.requires.image.side.1 in
    sums_small c.args.cells.now _ _ c.args.self.now.side (greatest c.args.depth) c.requires.sums (omega (arith, few)) (greatest_few c.args.depth)

pub each_sample-requires-clause-bound : goal.each_sample-requires-clause-bound
each_sample-requires-clause-bound c s low =
    let me = c.args.self.now in
    let im = c.requires.image in
    let image = image_of me.view.image.now in
    let w = columns me.view.rect in
    let left : image.rect.x1 ≡ pos 0 = ap (λ (r : Bounds). r.x1) (sym im.whole) ∙ im.left in
    let wide : columns image.rect ≡ w = ap columns (sym im.whole) in
    let step : c.count-step.result ≡ count c.args.components = c.count-step.ensures in
    let n = nat_abs (to_z w64 (of_z w64 c.rect.inside.x1)) in
    let bound = block_bound image c.args.components me.side (greatest c.args.depth) w c.args._y c.args.cells.now c.requires.sums c.requires.cells
    (beyond_zero image w left wide) (n * count c.args.components + s) in
    rw step (square_bound me.side (greatest c.args.depth) _ bound)

pub returns : goal.returns
returns c = λ x inside.
    let me = c.args.self.now in
    let im = c.requires.image in
    let image = image_of me.view.image.now in
    let e = c.args.components in
    let rect = c.args.rect in
    let w = columns me.view.rect in
    let left : image.rect.x1 ≡ pos 0 = ap (λ (r : Bounds). r.x1) (sym im.whole) ∙ im.left in
    let wide : columns image.rect ≡ w = ap columns (sym im.whole) in
    let step : c.count-step.result ≡ count e = c.count-step.ensures in
    let x1 = c.rect.inside.x1 in
    let a : FitsSigned w64 x1 = search rules in
    let b : FitsSigned w64 c.rect.inside.x2 = search rules in
    let from = ap (λ (r : Bounds). r.x1) c.rect.view_is in
    let start = c.requires.start.0 in
    let n = nat_abs (to_z w64 (of_z w64 x1)) in
    let n_is : pos n ≡ rect.x1 = grind (arith, ints) in
    let ends = simp to_z-of_z at c.offset.ensures in
    let many : c.offset.result ≡ columns rect = rw (← c.rect.view_is) ends in
    let means = rw (step, many) at c.each_sample.ensures in
    shows_samples c.args.depth e rect c.args._y c.each_sample.new.row
    (λ x k. rounded (sum_of k (block (pixel_at image) me.side x c.args._y)) (me.side * me.side))
    (λ i k low few.
    means (k + count e * i) (in_row e (columns rect) i k low few)
    ∙ ap (λ t. rounded t (me.side * me.side))
    (sample_is image e me.side (greatest c.args.depth) w c.args._y c.args.cells.now c.requires.sums c.requires.cells (beyond_zero image w left wide) n i k few
    ∙ ap (λ z. sum_of k (block (pixel_at image) me.side (z +ℤ pos i) c.args._y)) n_is))
    x inside
    ∙ ap (λ (z : Components). each z (λ k. rounded (sum_of k (block (pixel_at image) me.side x c.args._y)) (me.side * me.side))) (sym im.alike)
