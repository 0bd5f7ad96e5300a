use Rattle.std.proofs.Common.{◌≡◌, ◌<◌, ◌+◌, ◌*◌, pos, ◌+ℤ◌, ◌-ℤ◌, map, ap, sym, subst, arith, ◌∙◌, w64, to_z, of_z}
use Rattle.std.proofs.Common.{FitsSigned}
use Rattle.std.proofs.lemmas.Int.{ints, to_z-of_z}
use Rattle.fx_base.specs.Rect.{columns}
use Rattle.fx_pixel.specs.Pixel.{count, size}
use Rattle.fx_image.specs.Stored.{sample_in}
use Rattle.fx_effect.specs.Given.{clip_components, input_pixel}
use Rattle.fx_effect.specs.Local.{own_taps}
use Rattle.fx_effect.specs.Rows.{IsLine}
use Rattle.fx_effect.proofs.PieceLaws.{is_wide}
use Rattle.fx_kernel.specs.Samples.{rounded, sum_of}
use Rattle.fx_kernel.specs.RowLaws.{shows_samples, sample_low}
use Rattle.fx_time.specs.Frameblend.{blend_reads}
use Rattle.fx_time.specs.BlendRows.{moment_sample}
use Rattle.fx_time.proofs.LineLaws.{line_of, shown_of}
use Rattle.fx_time.proofs.BlendLaws.{sample_read, three_is}
use Rattle.fx_time.proofs.WidthLaws.{order_near, columns_near, samples_fit, row_long}
use Rattle.fx_time.proofs.frameblend.BlendRows.blend_three.Goals as goal

pub lend_row-two-requires-clause-row : goal.lend_row-two-requires-clause-row
lend_row-two-requires-clause-row c =
    let y : FitsSigned w64 c.args.y = c.ranges.y in
    simp to_z-of_z (line_of c.args.self.now.inputs.now 0 c.args.depth c.args.components c.args.components c.args.rect c.args.y c.args.row.now c.args.other.now
    c.requires.shows c.requires.row c.requires.other)

pub read_row-requires-clause-row : goal.read_row-requires-clause-row
read_row-requires-clause-row c =
    let y : FitsSigned w64 c.args.y = c.ranges.y in
    simp to_z-of_z (line_of c.args.self.now.inputs.now 0 c.args.depth c.args.components c.args.components c.args.rect c.args.y c.args.row.now c.args.row.now
    c.requires.shows c.requires.row c.requires.row.long)

pub returns : goal.returns
returns c =
    let q = c.requires in
    let me = c.args.self.now in
    let given = me.inputs.now in
    let d = c.args.depth in
    let k = c.args.components in
    let rect = c.args.rect in
    let y : FitsSigned w64 c.args.y = c.ranges.y in
    let before = to_z w64 (of_z w64 (to_z w64 (of_z w64 me.frame) -ℤ pos 1)) in
    let behind = to_z w64 (of_z w64 (to_z w64 (of_z w64 me.frame) +ℤ pos 1)) in
    let now = to_z w64 (of_z w64 me.frame) in
    let first : before ≡ me.frame -ℤ pos 1 = omega (arith, ints, q.frame.0, q.frame.1) in
    let here : now ≡ me.frame = omega (arith, ints, q.frame.0, q.frame.1) in
    let last : behind ≡ me.frame +ℤ pos 1 = omega (arith, ints, q.frame.0, q.frame.1) in
    let one = sample_read given before d k rect c.args.y c.args.row.now c.lend_row-one.result.now q.row (shown_of given 0 d k rect c.args.y before c.lend_row-one.result.now q.shows (simp to_z-of_z at c.lend_row-one.ensures.shows)) in
    let two = sample_read given now d k rect c.args.y c.args.row.now c.lend_row-two.result.now q.row (shown_of given 0 d k rect c.args.y now c.lend_row-two.result.now q.shows (simp to_z-of_z at c.lend_row-two.ensures.shows)) in
    let three = sample_read given behind d k rect c.args.y c.args.row.now c.read_row.new.row q.row (shown_of given 0 d k rect c.args.y behind c.read_row.new.row q.shows (simp to_z-of_z at c.read_row.ensures)) in
    let order = is_wide rect q.row.bounds in
    let wide = columns_near _ rect c.offset.result c.rect.view_is q.row.near order c.offset.ensures in
    let sample = moment_sample given k rect c.args.y in
    shows_samples d k rect c.args.y c.write_mean_of_three.new.row (λ x n. rounded (sum_of n (map (input_pixel given) (own_taps (blend_reads me.frame me.radius) x c.args.y))) (2 * me.radius + 1))
    (λ i n low few.
    let s = n + count k * i in
    let within = sample_low k (columns rect) i n low few in
    let a = one s within ∙ ap (sample s) first in
    let b = two s within ∙ ap (sample s) here in
    let e = three s within ∙ ap (sample s) last in
    let there : s < c.offset.result * c.count.result = rw (wide, c.count.ensures) within in
    let sum = three_is given me.frame k rect c.args.y i n (sample_in d c.lend_row-one.result.now s) (sample_in d c.lend_row-two.result.now s) (sample_in d c.read_row.new.row s) few a b e in
    c.write_mean_of_three.ensures s there ∙ ap (λ w. rounded w 3) sum
    ∙ ap (λ r. rounded (sum_of n (map (input_pixel given) (own_taps (blend_reads me.frame r) (rect.x1 +ℤ pos i) c.args.y))) (2 * r + 1)) (sym q.one))

pub offset-requires : goal.offset-requires
offset-requires c =
    let row = c.requires.row in
    order_near _ c.args.rect c.rect.view_is row.near (is_wide c.args.rect row.bounds)

pub overflow_mul-samples : goal.overflow_mul-samples
overflow_mul-samples c =
    let rect = c.args.rect in
    let row = c.requires.row in
    let order = is_wide rect row.bounds in
    let wide = columns_near _ rect c.offset.result c.rect.view_is row.near order c.offset.ensures in
    samples_fit rect c.args.components c.offset.result c.count.result wide c.count.ensures row.near order

pub lend_row-one-requires-clause-row : goal.lend_row-one-requires-clause-row
lend_row-one-requires-clause-row c =
    let q = c.requires in
    let given = c.args.self.now.inputs.now in
    let rect = c.args.rect in
    subst (λ y. IsLine given.depth (clip_components given 0) rect y c.args.line.now)
    (sym (to_z-of_z w64 c.args.y c.ranges.y))
    (line_of given 0 c.args.depth c.args.components c.args.components rect c.args.y c.args.row.now c.args.line.now
    q.shows
    q.row q.line)

pub write_mean_of_three-requires-clause-one : goal.write_mean_of_three-requires-clause-one
write_mean_of_three-requires-clause-one c =
    let rect = c.args.rect in
    let row = c.requires.row in
    let order = is_wide rect row.bounds in
    let wide = columns_near _ rect c.offset.result c.rect.view_is row.near order c.offset.ensures in
    row_long _ c.offset.result _ c.count.result (count c.args.components) (size c.args.depth)
    (c.lend_row-one.ensures.long ∙ c.requires.line) wide c.count.ensures

pub write_mean_of_three-requires-clause-two : goal.write_mean_of_three-requires-clause-two
write_mean_of_three-requires-clause-two c =
    let rect = c.args.rect in
    let row = c.requires.row in
    let order = is_wide rect row.bounds in
    let wide = columns_near _ rect c.offset.result c.rect.view_is row.near order c.offset.ensures in
    row_long _ c.offset.result _ c.count.result (count c.args.components) (size c.args.depth)
    (c.lend_row-two.ensures.long ∙ c.requires.other) wide c.count.ensures

pub write_mean_of_three-requires-clause-long : goal.write_mean_of_three-requires-clause-long
write_mean_of_three-requires-clause-long c =
    let rect = c.args.rect in
    let row = c.requires.row in
    let order = is_wide rect row.bounds in
    let wide = columns_near _ rect c.offset.result c.rect.view_is row.near order c.offset.ensures in
    row_long _ c.offset.result _ c.count.result (count c.args.components) (size c.args.depth)
    (c.read_row.auto.row ∙ row.long) wide c.count.ensures
