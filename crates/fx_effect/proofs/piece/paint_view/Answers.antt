use Rattle.std.proofs.Common.{◌≡◌, length, ap, ◌∙◌, rules, w64, FitsSigned}
use Rattle.std.specs.Int.{int_gap}
use Rattle.std.proofs.lemmas.Int.{to_z-of_z}
use Rattle.fx_base.specs.Rect.{columns}
use Rattle.fx_image.specs.Stored.{shown as shown_at}
use Rattle.fx_effect.specs.Given.{converted, image_pixel}
use Rattle.fx_effect.proofs.RunLaws.{both_room, run_shown, row_painted}
use Rattle.fx_effect.proofs.piece.paint_view.Goals as goal

pub row_within-source-requires-clause-covers : goal.row_within-source-requires-clause-covers
row_within-source-requires-clause-covers c = let row : FitsSigned w64 c.args.y = c.ranges.y in simp to_z-of_z c.requires.both.covers

pub write_run-requires-clause-source : goal.write_run-requires-clause-source
write_run-requires-clause-source c =
    let a : FitsSigned w64 c.rect.inside.x1 = search rules in
    let b : FitsSigned w64 c.both.inside.x1 = search rules in
    let e : FitsSigned w64 c.both.inside.x2 = search rules in
    let start = simp to_z-of_z at c.offset-first.ensures in
    let stop = simp to_z-of_z at c.offset-count.ensures in
    let first : c.offset-first.result ≡ int_gap c.args.rect.x1 c.args.both.x1 = rw (← c.rect.view_is, ← c.both.view_is) start in
    let count : c.offset-count.result ≡ columns c.args.both = rw (← c.both.view_is) stop in
    rw (count, c.depth.ensures, c.components.ensures) c.row_within-source.ensures.long

pub write_run-requires-clause-room : goal.write_run-requires-clause-room
write_run-requires-clause-room c =
    let a : FitsSigned w64 c.rect.inside.x1 = search rules in
    let b : FitsSigned w64 c.both.inside.x1 = search rules in
    let e : FitsSigned w64 c.both.inside.x2 = search rules in
    let start = simp to_z-of_z at c.offset-first.ensures in
    let stop = simp to_z-of_z at c.offset-count.ensures in
    let first : c.offset-first.result ≡ int_gap c.args.rect.x1 c.args.both.x1 = rw (← c.rect.view_is, ← c.both.view_is) start in
    let count : c.offset-count.result ≡ columns c.args.both = rw (← c.both.view_is) stop in
    let q = c.requires.both in
    rw (first, count) (both_room c.args.depth c.args.components c.args.rect c.args.both (length c.args.row.now) q.left q.wide q.right c.requires.row)

pub returns : goal.returns
returns c x inside =
    let a : FitsSigned w64 c.rect.inside.x1 = search rules in
    let b : FitsSigned w64 c.both.inside.x1 = search rules in
    let e : FitsSigned w64 c.both.inside.x2 = search rules in
    let start = simp to_z-of_z at c.offset-first.ensures in
    let stop = simp to_z-of_z at c.offset-count.ensures in
    let first : c.offset-first.result ≡ int_gap c.args.rect.x1 c.args.both.x1 = rw (← c.rect.view_is, ← c.both.view_is) start in
    let count : c.offset-count.result ≡ columns c.args.both = rw (← c.both.view_is) stop in
    let row : FitsSigned w64 c.args.y = c.ranges.y in
    let q = c.requires.both in
    let image = c.args.view.now.image.now in
    let through = c.args.through.now in
    let d = c.args.depth in
    let k = c.args.components in
    let shown = simp to_z-of_z at c.row_within-source.ensures.pixels in
    let painted = rw (first, count, c.depth.ensures, c.components.ensures) at c.write_run.ensures.painted in
    let others = rw (first, count) at c.write_run.ensures.others in
    row_painted d k c.args.view.now.rect c.args.rect c.args.both c.args.y c.args.row.now c.write_run.new.row (λ z. image_pixel d k image through z c.args.y) q.places q.left q.wide q.bottom q.top
    (λ i low. painted i low ∙ ap (converted image.depth through d k) (run_shown image.depth image.components c.args.both c.args.y (shown_at image) c.row_within-source.result.now i q.wide q.bottom q.top shown low))
    others x inside
