use Rattle.std.proofs.Common.{◌≡◌, ◌<◌, ◌+◌, ◌*◌, map, suc, ap, arith, ◌∙◌, add-one, w64, FitsSigned, rules}
use Rattle.std.proofs.lemmas.Int.{ints, to_z-of_z}
use Rattle.fx_base.specs.Bounds.{Bounds}
use Rattle.fx_base.specs.Rect.{columns}
use Rattle.fx_pixel.specs.Pixel.{count}
use Rattle.fx_image.specs.Stored.{sample_in}
use Rattle.fx_effect.specs.Given.{input_pixel}
use Rattle.fx_effect.specs.Local.{own_taps}
use Rattle.fx_effect.proofs.PieceLaws.{is_wide}
use Rattle.fx_kernel.specs.RowLaws.{shows_samples, sample_low}
use Rattle.fx_time.specs.Times.{source_at}
use Rattle.fx_time.specs.Echo.{back, moments, loudest}
use Rattle.fx_time.specs.BlendRows.{moment_sample}
use Rattle.fx_time.proofs.LineLaws.{line_of, shown_of}
use Rattle.fx_time.proofs.BlendLaws.{sample_read}
use Rattle.fx_time.proofs.EchoRowLaws.{most, next_most, clear_sample, row_is, row_samples}
use Rattle.fx_time.proofs.WidthLaws.{columns_near, samples_fit}
use Rattle.fx_time.proofs.echo.EchoRowsRowKernel.fill_row.Goals as goal

pub offset-requires : goal.offset-requires
offset-requires c =
    let a : FitsSigned w64 c.rect.inside.x1 = search rules in
    let b : FitsSigned w64 c.rect.inside.x2 = search rules in
    let left = ap (λ (r : Bounds). r.x1) c.rect.view_is in
    let right = ap (λ (r : Bounds). r.x2) c.rect.view_is in
    simp to_z-of_z (omega (arith, ints, left, right, is_wide c.args.rect c.requires.row.bounds))

pub loop-k-init : goal.loop-k-init
loop-k-init c s low = clear_sample c.args.depth c.clear.new.row s c.clear.ensures

pub read_row-requires-clause-row : goal.read_row-requires-clause-row
read_row-requires-clause-row c =
    let y : FitsSigned w64 c.args.y = c.ranges.y in
    simp to_z-of_z (line_of c.args.self.now.inputs.now 0 c.args.depth c.args.components c.args.components c.args.rect c.args.y c.args.row.now c.loop-k.bytes
    c.requires.makes.0 c.requires.row (c.loop-k.auto.bytes ∙ c.requires.bytes))

pub louder_row-requires-clause-other : goal.louder_row-requires-clause-other
louder_row-requires-clause-other c =
    let a : FitsSigned w64 c.rect.inside.x1 = search rules in
    let b : FitsSigned w64 c.rect.inside.x2 = search rules in
    let ends = simp to_z-of_z at c.offset.ensures in
    let wide : c.offset.result ≡ columns c.args.rect = rw (← c.rect.view_is) ends in
    let whole = row_samples c.args.depth c.args.components (columns c.args.rect) c.offset.result c.count.result wide c.count.ensures in
    omega (arith, c.read_row.auto.row, c.loop-k.auto.bytes, c.requires.bytes, whole)

pub louder_row-requires-clause-long : goal.louder_row-requires-clause-long
louder_row-requires-clause-long c =
    let a : FitsSigned w64 c.rect.inside.x1 = search rules in
    let b : FitsSigned w64 c.rect.inside.x2 = search rules in
    let ends = simp to_z-of_z at c.offset.ensures in
    let wide : c.offset.result ≡ columns c.args.rect = rw (← c.rect.view_is) ends in
    let whole = row_samples c.args.depth c.args.components (columns c.args.rect) c.offset.result c.count.result wide c.count.ensures in
    omega (arith, c.loop-k.auto.row, c.clear.auto.row, c.requires.row.long, whole)

pub loop-k-preserved : goal.loop-k-preserved
loop-k-preserved c s low =
    let me = c.args.self.now in
    let given = me.inputs.now in
    let d = c.args.depth in
    let comps = c.args.components in
    let rect = c.args.rect in
    let k = c.loop-k.k in
    let t = c.back-frame.result in
    let a : FitsSigned w64 c.rect.inside.x1 = search rules in
    let b : FitsSigned w64 c.rect.inside.x2 = search rules in
    let y : FitsSigned w64 c.args.y = c.ranges.y in
    let frame : FitsSigned w64 me.frame = search rules in
    let then : FitsSigned w64 t = search rules in
    let ends = simp to_z-of_z at c.offset.ensures in
    let wide : c.offset.result ≡ columns rect = rw (← c.rect.view_is) ends in
    let there : s < c.offset.result * c.count.result = rw (wide, c.count.ensures) low in
    let shown = shown_of given 0 d comps rect c.args.y t c.read_row.new.row c.requires.makes.0 (simp to_z-of_z at c.read_row.ensures) in
    let read = sample_read given t d comps rect c.args.y c.args.row.now c.read_row.new.row c.requires.row shown s low in
    let here : t ≡ back me.frame me.gap k = simp to_z-of_z at c.back-frame.ensures in
    let before = simp to_z-of_z at c.loop-k.invariant in
    simp to_z-of_z (next_most me.count k c.of.result.count c.of.result.back (λ j. moment_sample given comps rect c.args.y s (back me.frame me.gap j))
    (sample_in d c.louder_row.new.row s) (sample_in d c.read_row.new.row s) (sample_in d c.loop-k.row s)
    c.of.ensures.count c.of.ensures.back (read ∙ ap (moment_sample given comps rect c.args.y s) here) (before s low) (c.louder_row.ensures s there))

pub returns-clause-shows : goal.returns-clause-shows
returns-clause-shows c =
    let me = c.args.self.now in
    let given = me.inputs.now in
    let d = c.args.depth in
    let comps = c.args.components in
    let rect = c.args.rect in
    let all : c.loop-k.k ≡ me.count + 1 = omega (arith, c.loop-k-test.false, c.loop-k.auto.k-end) in
    let last : c.loop-k.k ≡ suc me.count = all ∙ add-one me.count in
    let y : FitsSigned w64 c.args.y = c.ranges.y in
    let whole = simp to_z-of_z at c.loop-k.invariant in
    shows_samples d comps rect c.args.y c.loop-k.row (λ x n. loudest me.count n (map (input_pixel given) (own_taps (map source_at (moments me.frame me.gap (suc me.count))) x c.args.y)))
    (λ i n low few.
    whole (n + count comps * i) (sample_low comps (columns rect) i n low few)
    ∙ ap (most me.count (λ j. moment_sample given comps rect c.args.y (n + count comps * i) (back me.frame me.gap j))) last
    ∙ row_is given me.count me.frame me.gap comps rect c.args.y i n (suc me.count) few)

pub overflow_mul-samples : goal.overflow_mul-samples
overflow_mul-samples c =
    let rect = c.args.rect in
    let row = c.requires.row in
    let order = is_wide rect row.bounds in
    let wide = columns_near _ rect c.offset.result c.rect.view_is row.near order c.offset.ensures in
    samples_fit rect c.args.components c.offset.result c.count.result wide c.count.ensures row.near order
