use Rattle.std.proofs.Common.{◌≡◌, ◌<◌, ◌+◌, ◌*◌, ◌∙◌, ℕ, pos, ◌+ℤ◌, ◌-ℤ◌, ◌<ℤ◌, slice_index, sym, subst, ap, arith, w64}
use Rattle.std.proofs.lemmas.Int.{ints, to_z-of_z}
use Rattle.fx_base.specs.Bounds.{Bounds}
use Rattle.fx_base.specs.Rect.{IsStep}
use Rattle.fx_base.proofs.RectLaws.{gap_is}
use Rattle.fx_pixel.specs.Pixel.{size, count}
use Rattle.fx_image.specs.Stored.{pixel_size, pixel_in}
use Rattle.fx_kernel.specs.RowLaws.{samples_of}
use Rattle.fx_effect.specs.Given.{row_pixel}
use Rattle.fx_area.specs.declared.lines.Line.{Line}
use Rattle.fx_area.specs.BoxRows.{line_width, box_line}
use Rattle.fx_area.proofs.boxblur.BoxRows.take.Goals as goal

pub take_row-requires-clause-enough : goal.take_row-requires-clause-enough
take_row-requires-clause-enough c s low =
    let k = c.args.self.now in
    let given = k.inputs.now in
    let d = c.args.depth in
    let e = c.args.components in
    let bytes = c.lend_line-line.result.now in
    let x = c.args.rect.x1 -ℤ pos k.rx in
    let is = c.line.ensures ∙ ap (box_line k.frame k.rx c.args.rect) (to_z-of_z w64 c.args.j c.ranges.j) in
    let shows = subst (λ (l : Line). (i : ℕ) → i < l.count → pixel_in d e bytes i ≡ row_pixel given 0 l.frame (l.x +ℤ pos i) l.y) is c.lend_line-line.ensures.pixels in
    let there : s < line_width k.rx c.args.rect * count e = rw (← c.requires.line.cell_for_each) low in
    rw (samples_of d e bytes (line_width k.rx c.args.rect) (λ i. row_pixel given 0 k.frame (x +ℤ pos i) c.args.j) shows s there) (c.requires.enough s low)

pub returns : goal.returns
returns c s low =
    let k = c.args.self.now in
    let given = k.inputs.now in
    let d = c.args.depth in
    let e = c.args.components in
    let bytes = c.lend_line-line.result.now in
    let x = c.args.rect.x1 -ℤ pos k.rx in
    let is = c.line.ensures ∙ ap (box_line k.frame k.rx c.args.rect) (to_z-of_z w64 c.args.j c.ranges.j) in
    let shows = subst (λ (l : Line). (i : ℕ) → i < l.count → pixel_in d e bytes i ≡ row_pixel given 0 l.frame (l.x +ℤ pos i) l.y) is c.lend_line-line.ensures.pixels in
    let there : s < line_width k.rx c.args.rect * count e = rw (← c.requires.line.cell_for_each) low in
    ap (λ n. slice_index c.take_row.new.cells s + n) (sym (samples_of d e bytes (line_width k.rx c.args.rect) (λ i. row_pixel given 0 k.frame (x +ℤ pos i) c.args.j) shows s there))
    ∙ c.take_row.ensures s low

pub lend_line-line-requires-clause-place : goal.lend_line-line-requires-clause-place
lend_line-line-requires-clause-place c =
    let k = c.args.self.now in
    let q = c.requires.line in
    let left = q.near.left in let right = q.near.right in
    let wide = q.wide in let narrow = q.narrow in
    let low = q.row.0 in let high = q.row.1 in
    let is = c.line.ensures ∙ ap (box_line k.frame k.rx c.args.rect) (to_z-of_z w64 c.args.j c.ranges.j) in
    subst (λ (l : Line). IsStep 4294967296 l.x × IsStep 4294967296 l.y) (sym is) ((omega (arith, ints), omega (arith, ints)), (omega (arith, ints), omega (arith, ints)))

pub lend_line-line-requires-clause-few : goal.lend_line-line-requires-clause-few
lend_line-line-requires-clause-few c =
    let k = c.args.self.now in
    let q = c.requires.line in
    let left = q.near.left in let right = q.near.right in
    let wide = q.wide in let narrow = q.narrow in
    let whole = gap_is c.args.rect.x1 c.args.rect.x2 (omega (arith, ints)) in
    let is = c.line.ensures ∙ ap (box_line k.frame k.rx c.args.rect) (to_z-of_z w64 c.args.j c.ranges.j) in
    subst (λ (l : Line). l.count < 4294967296) (sym is) (omega (arith, ints, whole))

pub line-requires-clause-narrow : goal.line-requires-clause-narrow
line-requires-clause-narrow c = c.requires.line.narrow

pub line-requires-clause-near : goal.line-requires-clause-near
line-requires-clause-near c = c.requires.line.near

pub line-requires-clause-wide : goal.line-requires-clause-wide
line-requires-clause-wide c = c.requires.line.wide

pub lend_line-line-requires-clause-source : goal.lend_line-line-requires-clause-source
lend_line-line-requires-clause-source c = c.requires.line.source

some_width : (h : ℕ) (rect : Bounds) → rect.x1 <ℤ rect.x2 → 0 < line_width h rect
some_width h rect wide = let whole = gap_is rect.x1 rect.x2 (omega (arith, ints, wide)) in omega (arith, ints, whole, wide)

pub lend_line-line-requires-clause-some : goal.lend_line-line-requires-clause-some
lend_line-line-requires-clause-some c =
    let k = c.args.self.now in
    subst (λ (l : Line). 0 < l.count) (sym c.line.ensures) (some_width k.rx c.args.rect c.requires.line.wide)

pub lend_line-line-requires-clause-long : goal.lend_line-line-requires-clause-long
lend_line-line-requires-clause-long c =
    let wide = ap (λ (l : Line). l.count * pixel_size c.args.depth c.args.components) c.line.ensures in
    c.requires.line.byte_for_each ∙ sym wide

regrouped : (w n s : ℕ) → w * (n * s) ≡ (w * n) * s
regrouped w n s = omega arith

pub take_row-requires-clause-long : goal.take_row-requires-clause-long
take_row-requires-clause-long c =
    let k = c.args.self.now in
    let d = c.args.depth in
    let e = c.args.components in
    c.lend_line-line.ensures.long ∙ ap (λ (l : Line). l.count * pixel_size d e) c.line.ensures
    ∙ regrouped (line_width k.rx c.args.rect) (count e) (size d)
    ∙ ap (λ n. n * size d) (sym c.requires.line.cell_for_each)
