use Rattle.std.proofs.Common.{◌≡◌, ◌≤◌, ◌<◌, ◌+◌, ◌*◌, ℕ, ℤ, pos, ◌+ℤ◌, length, ap, arith, ◌∙◌, w64, FitsSigned, rules}
use Rattle.std.proofs.lemmas.Int.{ints, to_z-of_z}
use Rattle.fx_base.specs.Bounds.{Bounds}
use Rattle.fx_base.specs.Rect.{columns}
use Rattle.fx_pixel.specs.Pixel.{count}
use Rattle.fx_image.specs.Stored.{sample_in}
use Rattle.fx_effect.specs.Given.{row_pixel}
use Rattle.fx_effect.proofs.PieceLaws.{is_wide}
use Rattle.fx_kernel.specs.Samples.{nth}
use Rattle.fx_kernel.specs.Blends.{blended}
use Rattle.fx_kernel.specs.RowLaws.{shows_samples, sample_at, sample_low}
use Rattle.fx_trans.proofs.LineLaws.{line_of, shown_of, pixel_of}
use Rattle.fx_trans.proofs.dissolve.DissolveRowsRowKernel.fill_row.Goals as goal

pub read_row-requires-2-clause-row : goal.read_row-requires-2-clause-row
read_row-requires-2-clause-row c =
    let y : FitsSigned w64 c.args.y = c.ranges.y in
    simp to_z-of_z (line_of c.args.self.now.inputs.now 1 c.args.depth c.args.components c.args.components c.args.rect c.args.y c.args.row.now c.args.bytes.now
    c.requires.makes.1 c.requires.row c.requires.bytes)

pub offset-requires : goal.offset-requires
offset-requires c =
    let a : FitsSigned w64 c.rect.inside.x1 = search (rules, c.rect.ranges) in
    let b : FitsSigned w64 c.rect.inside.x2 = search (rules, c.rect.ranges) in
    let left = ap (λ (r : Bounds). r.x1) c.rect.view_is in
    let right = ap (λ (r : Bounds). r.x2) c.rect.view_is in
    simp to_z-of_z (omega (arith, ints, left, right, is_wide c.args.rect c.requires.row.bounds))

pub returns-clause-shows : goal.returns-clause-shows
returns-clause-shows c =
    let d = c.args.depth in
    let k = c.args.components in
    let rect = c.args.rect in
    let me = c.args.self.now in
    let given = me.inputs.now in
    let a : FitsSigned w64 c.rect.inside.x1 = search (rules, c.rect.ranges) in
    let b : FitsSigned w64 c.rect.inside.x2 = search (rules, c.rect.ranges) in
    let t : FitsSigned w64 me.frame = search rules in
    let y : FitsSigned w64 c.args.y = c.ranges.y in
    let ends = simp to_z-of_z at c.offset.ensures in
    let wide : c.offset.result ≡ columns rect = rw (← c.rect.view_is) ends in
    let from = pixel_of d k rect c.args.y c.args.row.now c.read_row.new.row (row_pixel given 0 me.frame) c.requires.row
    (shown_of given 0 d k rect c.args.y me.frame c.read_row.new.row c.requires.makes.0 (simp to_z-of_z at c.read_row.ensures)) in
    let to = pixel_of d k rect c.args.y c.args.row.now c.read_row-2.new.row (row_pixel given 1 me.frame) c.requires.row
    (shown_of given 1 d k rect c.args.y me.frame c.read_row-2.new.row c.requires.makes.1 (simp to_z-of_z at c.read_row-2.ensures)) in
    shows_samples d k rect c.args.y c.blend_row.new.row (λ x n. blended me.level (nth (row_pixel given 0 me.frame x c.args.y) n) (nth (row_pixel given 1 me.frame x c.args.y) n))
    (λ i n low few.
    let s = n + count k * i in
    let there : s < c.offset.result * c.count.result = rw (wide, c.count.ensures) (sample_low k (columns rect) i n low few) in
    let p = sample_at d k c.read_row.new.row i n (row_pixel given 0 me.frame (rect.x1 +ℤ pos i) c.args.y) few (from i low) in
    let q = sample_at d k c.read_row-2.new.row i n (row_pixel given 1 me.frame (rect.x1 +ℤ pos i) c.args.y) few (to i low) in
    c.blend_row.ensures s there ∙ ap (λ v. blended me.level v (sample_in d c.read_row-2.new.row s)) p ∙ ap (blended me.level (nth (row_pixel given 0 me.frame (rect.x1 +ℤ pos i) c.args.y) n)) q)
