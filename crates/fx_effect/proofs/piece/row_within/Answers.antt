use Rattle.std.proofs.Common.{length, ap, arith, ◌∙◌, w64, FitsSigned, rules}
use Rattle.std.proofs.lemmas.Int.{ints, to_z-of_z}
use Rattle.fx_base.specs.Bounds.{Bounds}
use Rattle.fx_image.specs.Stored.{pixel_size, shown as shown_at}
use Rattle.fx_effect.proofs.PieceLaws.{span_of, row_length, row_pixels}
use Rattle.fx_effect.proofs.piece.row_within.Goals as goal

pub offset-to-requires : goal.offset-to-requires
offset-to-requires c =
    let left = ap (λ (b : Bounds). b.x1) (c.left.view_is ∙ c.rect.ensures) in
    let right = ap (λ (b : Bounds). b.x2) c.rect-2.view_is in
    omega (arith, ints, left, right, c.requires.covers.left, c.requires.covers.wide)

pub overflow_mul-result : goal.overflow_mul-result
overflow_mul-result c =
    let span = span_of c.args.view.now.rect c.args.rect c.args.y c.left.inside.x1 c.rect-2.inside.x1 c.rect-2.inside.x2 c.pixel_size-size.result c.offset-from.result c.offset-to.result (length c.row-row.result.now) (search rules) (search rules) (search rules)
    (ap (λ (b : Bounds). b.x1) (c.left.view_is ∙ c.rect.ensures)) (ap (λ (b : Bounds). b.x1) c.rect-2.view_is) (ap (λ (b : Bounds). b.x2) c.rect-2.view_is) c.offset-from.ensures c.offset-to.ensures c.requires.covers
    (rw (c.pixel_size-size.ensures.value, c.depth.ensures, c.components.ensures) c.row-row.ensures.len) in
    let order = span.order in let room = span.room in search rules

pub overflow_mul-result-2 : goal.overflow_mul-result-2
overflow_mul-result-2 c =
    let span = span_of c.args.view.now.rect c.args.rect c.args.y c.left.inside.x1 c.rect-2.inside.x1 c.rect-2.inside.x2 c.pixel_size-size.result c.offset-from.result c.offset-to.result (length c.row-row.result.now) (search rules) (search rules) (search rules)
    (ap (λ (b : Bounds). b.x1) (c.left.view_is ∙ c.rect.ensures)) (ap (λ (b : Bounds). b.x1) c.rect-2.view_is) (ap (λ (b : Bounds). b.x2) c.rect-2.view_is) c.offset-from.ensures c.offset-to.ensures c.requires.covers
    (rw (c.pixel_size-size.ensures.value, c.depth.ensures, c.components.ensures) c.row-row.ensures.len) in
    let order = span.order in let room = span.room in search rules

pub slice_bounds-result-count : goal.slice_bounds-result-count
slice_bounds-result-count c =
    let span = span_of c.args.view.now.rect c.args.rect c.args.y c.left.inside.x1 c.rect-2.inside.x1 c.rect-2.inside.x2 c.pixel_size-size.result c.offset-from.result c.offset-to.result (length c.row-row.result.now) (search rules) (search rules) (search rules)
    (ap (λ (b : Bounds). b.x1) (c.left.view_is ∙ c.rect.ensures)) (ap (λ (b : Bounds). b.x1) c.rect-2.view_is) (ap (λ (b : Bounds). b.x2) c.rect-2.view_is) c.offset-from.ensures c.offset-to.ensures c.requires.covers
    (rw (c.pixel_size-size.ensures.value, c.depth.ensures, c.components.ensures) c.row-row.ensures.len) in
    span.order

pub slice_bounds-result-start : goal.slice_bounds-result-start
slice_bounds-result-start c =
    let span = span_of c.args.view.now.rect c.args.rect c.args.y c.left.inside.x1 c.rect-2.inside.x1 c.rect-2.inside.x2 c.pixel_size-size.result c.offset-from.result c.offset-to.result (length c.row-row.result.now) (search rules) (search rules) (search rules)
    (ap (λ (b : Bounds). b.x1) (c.left.view_is ∙ c.rect.ensures)) (ap (λ (b : Bounds). b.x1) c.rect-2.view_is) (ap (λ (b : Bounds). b.x2) c.rect-2.view_is) c.offset-from.ensures c.offset-to.ensures c.requires.covers
    (rw (c.pixel_size-size.ensures.value, c.depth.ensures, c.components.ensures) c.row-row.ensures.len) in
    let order = span.order in let room = span.room in search rules

pub slice_bounds-result-end : goal.slice_bounds-result-end
slice_bounds-result-end c =
    let span = span_of c.args.view.now.rect c.args.rect c.args.y c.left.inside.x1 c.rect-2.inside.x1 c.rect-2.inside.x2 c.pixel_size-size.result c.offset-from.result c.offset-to.result (length c.row-row.result.now) (search rules) (search rules) (search rules)
    (ap (λ (b : Bounds). b.x1) (c.left.view_is ∙ c.rect.ensures)) (ap (λ (b : Bounds). b.x1) c.rect-2.view_is) (ap (λ (b : Bounds). b.x2) c.rect-2.view_is) c.offset-from.ensures c.offset-to.ensures c.requires.covers
    (rw (c.pixel_size-size.ensures.value, c.depth.ensures, c.components.ensures) c.row-row.ensures.len) in
    let order = span.order in let room = span.room in search rules

pub returns-clause-long : goal.returns-clause-long
returns-clause-long c =
    let span = span_of c.args.view.now.rect c.args.rect c.args.y c.left.inside.x1 c.rect-2.inside.x1 c.rect-2.inside.x2 c.pixel_size-size.result c.offset-from.result c.offset-to.result (length c.row-row.result.now) (search rules) (search rules) (search rules)
    (ap (λ (b : Bounds). b.x1) (c.left.view_is ∙ c.rect.ensures)) (ap (λ (b : Bounds). b.x1) c.rect-2.view_is) (ap (λ (b : Bounds). b.x2) c.rect-2.view_is) c.offset-from.ensures c.offset-to.ensures c.requires.covers
    (rw (c.pixel_size-size.ensures.value, c.depth.ensures, c.components.ensures) c.row-row.ensures.len) in
    rw (span.starts, span.ends, c.pixel_size-size.ensures.value, c.depth.ensures, c.components.ensures) (row_length c.args.view.now.rect c.args.rect c.args.y (pixel_size c.args.view.now.image.now.depth c.args.view.now.image.now.components) c.row-row.result.now c.requires.covers c.row-row.ensures.len)

pub returns-clause-pixels : goal.returns-clause-pixels
returns-clause-pixels c =
    let span = span_of c.args.view.now.rect c.args.rect c.args.y c.left.inside.x1 c.rect-2.inside.x1 c.rect-2.inside.x2 c.pixel_size-size.result c.offset-from.result c.offset-to.result (length c.row-row.result.now) (search rules) (search rules) (search rules)
    (ap (λ (b : Bounds). b.x1) (c.left.view_is ∙ c.rect.ensures)) (ap (λ (b : Bounds). b.x1) c.rect-2.view_is) (ap (λ (b : Bounds). b.x2) c.rect-2.view_is) c.offset-from.ensures c.offset-to.ensures c.requires.covers
    (rw (c.pixel_size-size.ensures.value, c.depth.ensures, c.components.ensures) c.row-row.ensures.len) in
    let row : FitsSigned w64 c.args.y = c.ranges.y in
    let shown = simp to_z-of_z at c.row-row.ensures.pixels in
    rw (span.starts, span.ends, c.pixel_size-size.ensures.value, c.depth.ensures, c.components.ensures) (row_pixels c.args.view.now.image.now.depth c.args.view.now.image.now.components c.args.view.now.rect c.args.rect c.args.y (shown_at c.args.view.now.image.now) c.row-row.result.now c.requires.covers shown)
