use Rattle.std.proofs.Common.{◌≡◌, ◌∙◌, ◌+◌, ◌*◌, ℕ, map, ap, sym, arith}
use Rattle.fx_pixel.specs.Pixel.{greatest, count, size}
use Rattle.fx_effect.specs.Tap.{tap}
use Rattle.fx_effect.specs.Given.{input_pixel}
use Rattle.fx_kernel.specs.Samples.{rounded, sum_of}
use Rattle.fx_kernel.specs.Around.{square}
use Rattle.fx_kernel.specs.RowLaws.{shows_samples, greatest_few}
use Rattle.fx_kernel.specs.SumLaws.{sums_small}
use Rattle.fx_area.specs.Boxblur.{box_count}
use Rattle.fx_area.proofs.BoxLaws.{box_window, box_bound, box_product}
use Rattle.fx_area.proofs.SideLaws.{rect_ordered, order_near, columns_near, step_is}
use Rattle.fx_area.proofs.boxblur.BoxRows.write.Goals as goal

pub write_window_means-requires-clause-small : goal.write_window_means-requires-clause-small
write_window_means-requires-clause-small c = sums_small c.args.cells.now _ _ (2 * c.args.self.now.ry + 1) (greatest c.args.depth) c.requires.sums (omega (arith, c.requires.flat)) (greatest_few c.args.depth)

pub write_window_means-requires-clause-bound : goal.write_window_means-requires-clause-bound
write_window_means-requires-clause-bound c i n low few =
    let me = c.args.self.now in
    let rect = c.args.rect in
    let order = rect_ordered rect c.requires.row.bounds in
    let wide = columns_near _ rect c.offset.result c.rect.view_is c.requires.row.near order c.offset.ensures in
    let step : c.count.result ≡ count c.args.components = c.count.ensures in
    let bound = box_bound me.inputs.now me.frame me.rx me.ry (greatest c.args.depth) c.args.components rect c.args.y c.args.cells.now c.requires.sums c.requires.cells i n (rw (← wide) low) (rw (← step) few) in
    rw (step, c.requires.mean) (box_product me.rx me.ry (greatest c.args.depth) _ bound)

pub returns : goal.returns
returns c =
    let me = c.args.self.now in
    let rect = c.args.rect in
    let order = rect_ordered rect c.requires.row.bounds in
    let wide = columns_near _ rect c.offset.result c.rect.view_is c.requires.row.near order c.offset.ensures in
    let step : c.count.result ≡ count c.args.components = c.count.ensures in
    let means = rw (step, wide, c.requires.mean) at c.write_window_means.ensures in
    shows_samples c.args.depth c.args.components rect c.args.y c.write_window_means.new.row (λ x n. rounded (sum_of n (map (input_pixel me.inputs.now) (square (tap 0 me.frame) me.rx me.ry x c.args.y))) (box_count me.rx me.ry))
    (λ i n low few. means i n low few ∙ ap (λ w. rounded w (box_count me.rx me.ry)) (box_window me.inputs.now me.frame me.rx me.ry (greatest c.args.depth) c.args.components rect c.args.y c.args.cells.now c.requires.sums c.requires.cells i n low few))

pub offset-requires : goal.offset-requires
offset-requires c =
    let row = c.requires.row in
    order_near _ c.args.rect c.rect.view_is row.near (rect_ordered c.args.rect row.bounds)

row_long : (long n w k m s : ℕ) → long ≡ w * (m * s) → n ≡ w → k ≡ m → long ≡ n * k * s
row_long long n w k m s is p q = rw (p, q) (is ∙ omega arith)

line_long : (long n w h k m : ℕ) → long ≡ (w + 2 * h) * m → n ≡ w → k ≡ m → (n + 2 * h) * k ≡ long
line_long long n w h k m is p q = rw (p, q) (sym is)

pub write_window_means-requires-clause-long : goal.write_window_means-requires-clause-long
write_window_means-requires-clause-long c =
    let rect = c.args.rect in
    let row = c.requires.row in
    let order = rect_ordered rect row.bounds in
    let wide = columns_near _ rect c.offset.result c.rect.view_is row.near order c.offset.ensures in
    row_long _ c.offset.result _ c.count.result (count c.args.components) (size c.args.depth) row.long wide
    c.count.ensures

pub write_window_means-requires-clause-step : goal.write_window_means-requires-clause-step
write_window_means-requires-clause-step c = step_is c.args.components c.count.result c.count.ensures

pub write_window_means-requires-clause-cells : goal.write_window_means-requires-clause-cells
write_window_means-requires-clause-cells c =
    let rect = c.args.rect in
    let row = c.requires.row in
    let order = rect_ordered rect row.bounds in
    let wide = columns_near _ rect c.offset.result c.rect.view_is row.near order c.offset.ensures in
    line_long _ c.offset.result _ c.args.self.now.rx c.count.result (count c.args.components) c.requires.cells wide
    c.count.ensures
