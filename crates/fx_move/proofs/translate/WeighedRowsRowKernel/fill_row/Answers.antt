use Rattle.std.proofs.Common.{◌∙◌, ◌+◌, ◌*◌, length, pos, ◌+ℤ◌, sym, subst, ap, refl, arith, w64, to_z, of_z, FitsSigned, rules}
use Rattle.std.proofs.lemmas.Int.{ints, to_z-of_z}
use Rattle.std.specs.Int.{int_gap}
use Rattle.fx_base.specs.Bounds.{Bounds}
use Rattle.fx_base.specs.Rect.{columns}
use Rattle.fx_pixel.specs.Pixel.{count}
use Rattle.fx_image.specs.Stored.{pixel_size}
use Rattle.fx_image.proofs.ImageLaws.{gap_below, place_from}
use Rattle.fx_effect.specs.Given.{input_pixel, row_pixel}
use Rattle.fx_effect.specs.SourceLaws.{shows_source}
use Rattle.fx_move.specs.Translate.{across, upward, translate_shape}
use Rattle.fx_move.specs.TranslateRows.{lines_of, four_weights, weighed_sample}
use Rattle.fx_move.specs.TranslateLaws.{IsAlong, axes_are}
use Rattle.fx_move.proofs.MirrorRows.{row_wide}
use Rattle.fx_move.proofs.TranslateRows.{weighed_row}
use Rattle.fx_move.proofs.WeighedRows.{line_of_two, pixel_of_two, weighed_at, shown_lines, line_there, halves, level_of, sample_fits}
use Rattle.fx_move.proofs.translate.WeighedRowsRowKernel.fill_row.Goals as goal

pub lines_of-lines-requires-clause-across : goal.lines_of-lines-requires-clause-across
lines_of-lines-requires-clause-across c =
    let m = c.requires.makes in
    subst IsAlong (sym m.1) (axes_are m.0.context c.args.self.now.values.now m.0.lawful).0

pub lines_of-lines-requires-clause-upward : goal.lines_of-lines-requires-clause-upward
lines_of-lines-requires-clause-upward c =
    let m = c.requires.makes in
    subst IsAlong (sym m.2) (axes_are m.0.context c.args.self.now.values.now m.0.lawful).1

pub of-weights-requires-clause-across : goal.of-weights-requires-clause-across
of-weights-requires-clause-across c =
    let m = c.requires.makes in
    subst IsAlong (sym m.1) (axes_are m.0.context c.args.self.now.values.now m.0.lawful).0

pub of-weights-requires-clause-upward : goal.of-weights-requires-clause-upward
of-weights-requires-clause-upward c =
    let m = c.requires.makes in
    subst IsAlong (sym m.2) (axes_are m.0.context c.args.self.now.values.now m.0.lawful).1

pub read_row-requires-clause-row : goal.read_row-requires-clause-row
read_row-requires-clause-row c =
    let k = c.args.self.now in
    let v = k.values.now in
    let given = k.inputs.now in
    let m = c.requires.makes in
    let row = c.requires.row in
    let rect = c.args.rect in
    let d = c.args.depth in
    let e = c.args.components in
    let y : FitsSigned w64 c.args.y = c.ranges.y in
    let axes = axes_are m.0.context v m.0.lawful in
    let there = c.lines_of-lines.ensures ∙ ap (λ z. lines_of z k.upward rect (to_z w64 (of_z w64 c.args.y))) m.1 ∙ ap (λ z. lines_of (across v) z rect (to_z w64 (of_z w64 c.args.y))) m.2 ∙ ap (lines_of (across v) (upward v) rect) (to_z-of_z w64 c.args.y y) in
    let inside_is = ap (λ (b : Bounds). b.y1) (c.lines.view_is ∙ there) in
    let level = level_of rect c.args.y (upward v).first c.lines.inside.y1 row.near row.above row.below axes.1.first.0 axes.1.first.1 inside_is in
    let shows = shows_source translate_shape v given d e (λ context. refl) m.0 in
    let wide = row_wide rect c.args.y row.bounds row.above row.below in
    let half = halves ((columns rect + 1) * pixel_size d e) (length c.args.bytes.now) (length c.split_at_mut-low.result.0.now) (length c.split_at_mut-low.result.1.now) c.requires.bytes c.split_at_mut-low.ensures.front_len c.split_at_mut-low.ensures.back_len in
    line_there given d e c.lines_of-lines.result (lines_of (across v) (upward v) rect c.args.y) (to_z w64 (of_z w64 c.lines.inside.y1)) (c.args.y +ℤ (upward v).first) c.split_at_mut-low.result.0.now shows.depth_is shows.components_are there level.0
    (line_of_two (across v) (upward v) d e rect c.args.y wide (c.args.y +ℤ (upward v).first) c.split_at_mut-low.result.0.now (omega (arith, ints)) (omega (arith, ints)) half.0)

pub overflow_add-y : goal.overflow_add-y
overflow_add-y c =
    let k = c.args.self.now in
    let v = k.values.now in
    let m = c.requires.makes in
    let row = c.requires.row in
    let rect = c.args.rect in
    let y : FitsSigned w64 c.args.y = c.ranges.y in
    let axes = axes_are m.0.context v m.0.lawful in
    let there = c.lines_of-lines.ensures ∙ ap (λ z. lines_of z k.upward rect (to_z w64 (of_z w64 c.args.y))) m.1 ∙ ap (λ z. lines_of (across v) z rect (to_z w64 (of_z w64 c.args.y))) m.2 ∙ ap (lines_of (across v) (upward v) rect) (to_z-of_z w64 c.args.y y) in
    let inside_is = ap (λ (b : Bounds). b.y1) (c.lines.view_is ∙ there) in
    (level_of rect c.args.y (upward v).first c.lines.inside.y1 row.near row.above row.below axes.1.first.0 axes.1.first.1 inside_is).2

pub read_row-requires-2-clause-row : goal.read_row-requires-2-clause-row
read_row-requires-2-clause-row c =
    let k = c.args.self.now in
    let v = k.values.now in
    let given = k.inputs.now in
    let m = c.requires.makes in
    let row = c.requires.row in
    let rect = c.args.rect in
    let d = c.args.depth in
    let e = c.args.components in
    let y : FitsSigned w64 c.args.y = c.ranges.y in
    let axes = axes_are m.0.context v m.0.lawful in
    let there = c.lines_of-lines.ensures ∙ ap (λ z. lines_of z k.upward rect (to_z w64 (of_z w64 c.args.y))) m.1 ∙ ap (λ z. lines_of (across v) z rect (to_z w64 (of_z w64 c.args.y))) m.2 ∙ ap (lines_of (across v) (upward v) rect) (to_z-of_z w64 c.args.y y) in
    let inside_is = ap (λ (b : Bounds). b.y1) (c.lines.view_is ∙ there) in
    let level = level_of rect c.args.y (upward v).first c.lines.inside.y1 row.near row.above row.below axes.1.first.0 axes.1.first.1 inside_is in
    let shows = shows_source translate_shape v given d e (λ context. refl) m.0 in
    let wide = row_wide rect c.args.y row.bounds row.above row.below in
    let half = halves ((columns rect + 1) * pixel_size d e) (length c.args.bytes.now) (length c.split_at_mut-low.result.0.now) (length c.split_at_mut-low.result.1.now) c.requires.bytes c.split_at_mut-low.ensures.front_len c.split_at_mut-low.ensures.back_len in
    line_there given d e c.lines_of-lines.result (lines_of (across v) (upward v) rect c.args.y) (to_z w64 (of_z w64 (to_z w64 (of_z w64 c.lines.inside.y1) +ℤ pos 1))) (c.args.y +ℤ (upward v).first +ℤ pos 1) c.split_at_mut-low.result.1.now shows.depth_is shows.components_are there level.1
    (line_of_two (across v) (upward v) d e rect c.args.y wide (c.args.y +ℤ (upward v).first +ℤ pos 1) c.split_at_mut-low.result.1.now (omega (arith, ints)) (omega (arith, ints)) half.1)

pub returns-clause-shows : goal.returns-clause-shows
returns-clause-shows c x inside =
    let k = c.args.self.now in
    let v = k.values.now in
    let given = k.inputs.now in
    let m = c.requires.makes in
    let row = c.requires.row in
    let rect = c.args.rect in
    let d = c.args.depth in
    let e = c.args.components in
    let y : FitsSigned w64 c.args.y = c.ranges.y in
    let axes = axes_are m.0.context v m.0.lawful in
    let there = c.lines_of-lines.ensures ∙ ap (λ z. lines_of z k.upward rect (to_z w64 (of_z w64 c.args.y))) m.1 ∙ ap (λ z. lines_of (across v) z rect (to_z w64 (of_z w64 c.args.y))) m.2 ∙ ap (lines_of (across v) (upward v) rect) (to_z-of_z w64 c.args.y y) in
    let inside_is = ap (λ (b : Bounds). b.y1) (c.lines.view_is ∙ there) in
    let level = level_of rect c.args.y (upward v).first c.lines.inside.y1 row.near row.above row.below axes.1.first.0 axes.1.first.1 inside_is in
    let shows = shows_source translate_shape v given d e (λ context. refl) m.0 in
    let wide = row_wide rect c.args.y row.bounds row.above row.below in
    let frame : FitsSigned w64 v.frame = search rules in
    let t = to_z-of_z w64 v.frame frame in
    let low = c.read_row.new.row in
    let high = c.read_row-2.new.row in
    let f = row_pixel given 0 v.frame in
    let j = c.args.y +ℤ (upward v).first in
    let lines = lines_of (across v) (upward v) rect c.args.y in
    let lows = shown_lines given (to_z w64 (of_z w64 v.frame)) v.frame d e c.lines_of-lines.result lines (to_z w64 (of_z w64 c.lines.inside.y1)) j low shows.depth_is shows.components_are t there level.0 c.read_row.ensures in
    let highs = shown_lines given (to_z w64 (of_z w64 v.frame)) v.frame d e c.lines_of-lines.result lines (to_z w64 (of_z w64 (to_z w64 (of_z w64 c.lines.inside.y1) +ℤ pos 1))) (j +ℤ pos 1) high shows.depth_is shows.components_are t there level.1 c.read_row-2.ensures in
    let made = c.of-weights.ensures.value ∙ ap (λ z. four_weights z k.upward) m.1 ∙ ap (four_weights (across v)) m.2 in
    let place = place_from rect x c.args.y inside in
    weighed_row (across v) (upward v) d e v.frame (input_pixel given) (rect.x1 +ℤ (across v).first) j (columns rect) low high c.weigh_row.new.row
    (λ i less. pixel_of_two (across v) (upward v) d e rect c.args.y wide j low f i (omega (arith, ints)) (omega (arith, ints)) lows less)
    (λ i less. pixel_of_two (across v) (upward v) d e rect c.args.y wide (j +ℤ pos 1) high f i (omega (arith, ints)) (omega (arith, ints)) highs less)
    (λ s less. c.weigh_row.ensures s (sample_fits d e (columns rect) s (length c.args.row.now) less row.long) ∙ ap (λ w. weighed_sample d (count e) w low high s) made)
    (int_gap rect.x1 x) (gap_below rect.x1 x rect.x2 place.left place.right)
    ∙ weighed_at (across v) (upward v) e v.frame (input_pixel given) rect.x1 x c.args.y place.left
