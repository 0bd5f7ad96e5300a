use Rattle.std.proofs.Common.{◌≡◌, ℤ, pos, ◌+ℤ◌, ◌*◌, length, refl, sym, ap, subst, arith, ◌∙◌, w64, to_z, of_z, FitsSigned, rules}
use Rattle.std.specs.Int.{int_gap}
use Rattle.std.proofs.lemmas.Int.{ints, to_z-of_z}
use Rattle.fx_base.specs.Bounds.{Bounds}
use Rattle.fx_base.specs.Rect.{Holds, columns}
use Rattle.fx_image.specs.Stored.{pixel_size, pixel_in}
use Rattle.fx_image.specs.Part.{part_with, WroteRows}
use Rattle.fx_image.proofs.ImageLaws.{inside_from, near_inside}
use Rattle.fx_image.proofs.PartLaws.{wrote_none, wrote_row}
use Rattle.fx_props.proofs.EntryLaws.{fits_between}
use Rattle.fx_effect.proofs.PieceLaws.{is_high}
use Rattle.fx_effect.proofs.rows.fill_with.Goals as goal

pub loop-y-init : goal.loop-y-init
loop-y-init g c =
    let p = c.args.out.now in
    let same = c.rect.view_is ∙ c.rect-rect.ensures in
    let low : FitsSigned w64 c.rect.inside.y1 = search rules in
    let high : FitsSigned w64 c.rect.inside.y2 = search rules in
    let bottom : to_z w64 (of_z w64 c.rect.inside.y1) ≡ p.rect.y1 = to_z-of_z w64 c.rect.inside.y1 low ∙ ap (λ (b : Bounds). b.y1) same in
    let top : to_z w64 (of_z w64 c.rect.inside.y2) ≡ p.rect.y2 = to_z-of_z w64 c.rect.inside.y2 high ∙ ap (λ (b : Bounds). b.y2) same in
    let f = g.K.RowKernel.pixel c.args.kernel.now c.depth-depth.result c.components-components.result in
    record {
      until = top;
      above = omega (arith, ints, bottom);
      up_to = omega (arith, ints, bottom, top, is_high p.rect c.requires.part.rect);
      same = (refl, refl, record { rect = refl; depth = refl; components = refl; pitch = refl; height = refl; step = refl; blocks = refl });
      written = subst (λ y. WroteRows p p.image.now y f) (sym bottom) (wrote_none p f);
      ready = subst (λ y. g.K.RowKernel.ready c.args.kernel.now c.depth-depth.result c.components-components.result p.rect y c.args.cells.now) (sym bottom) (rw (c.depth-depth.ensures, c.components-components.ensures) c.requires.ready);
    }

pub fill_row-requires-clause-row : goal.fill_row-requires-clause-row
fill_row-requires-clause-row g c =
    let p = c.args.out.now in
    let q = c.loop-y.out in
    let y = to_z w64 c.loop-y.y-bits in
    let same = c.loop-y.invariant.same in
    let part = c.requires.part in
    let there = inside_from p.rect p.image.now.rect y part.rect part.within c.loop-y.invariant.above (omega (arith, ints, c.loop-y-test.true, c.loop-y.invariant.until)) in
    rw (c.rect-rect.ensures, c.depth-depth.ensures, c.components-components.ensures) (
    record {
      bounds = part.rect;
      near = near_inside p.rect q.image.now.rect y (rw same.2.rect there) c.row_mut.ensures.stored.near c.loop-y.invariant.above (omega (arith, ints, c.loop-y-test.true, c.loop-y.invariant.until));
      above = c.loop-y.invariant.above;
      below = omega (arith, ints, c.loop-y-test.true, c.loop-y.invariant.until);
      long = rw (same.1, same.2.depth, same.2.components) at c.row_mut.ensures.len;
    })

pub loop-y-preserved : goal.loop-y-preserved
loop-y-preserved g c =
    let p = c.args.out.now in
    let q = c.loop-y.out in
    let y = to_z w64 c.loop-y.y-bits in
    let same = c.loop-y.invariant.same in
    let ws = c.fill_row.new.row in
    let f = g.K.RowKernel.pixel c.args.kernel.now c.depth-depth.result c.components-components.result in
    let long : length ws ≡ columns p.rect * pixel_size q.image.now.depth q.image.now.components = c.fill_row.auto.row ∙ c.row_mut.ensures.len ∙ ap (λ b. columns b * pixel_size q.image.now.depth q.image.now.components) same.1 in
    let filled : (x : ℤ) → Holds p.rect x y → pixel_in q.image.now.depth q.image.now.components ws (int_gap p.rect.x1 x) ≡ f x y =
    rw (same.2.depth, same.2.components, ← c.rect-rect.ensures, ← c.depth-depth.ensures, ← c.components-components.ensures) c.fill_row.ensures.shows in
    let high : FitsSigned w64 c.rect.inside.y2 = search rules in
    let until : c.rect.inside.y2 ≡ p.rect.y2 = ap (λ (b : Bounds). b.y2) (c.rect.view_is ∙ c.rect-rect.ensures) in
    let low : FitsSigned w64 c.rect.inside.y1 = search rules in
    let bottom : c.rect.inside.y1 ≡ p.rect.y1 = ap (λ (b : Bounds). b.y1) (c.rect.view_is ∙ c.rect-rect.ensures) in
    let up : to_z w64 (of_z w64 (y +ℤ pos 1)) ≡ y +ℤ pos 1 = to_z-of_z w64 (y +ℤ pos 1) (fits_between c.rect.inside.y1 (y +ℤ pos 1) c.rect.inside.y2 low high (omega (arith, ints, bottom, c.loop-y.invariant.above)) (omega (arith, ints, c.loop-y-test.true))) in
    let next = wrote_row p q y f ws same c.requires.part c.row_mut.ensures.stored c.row_mut.ensures.rows c.loop-y.invariant.above (omega (arith, ints, c.loop-y-test.true, c.loop-y.invariant.until)) long filled c.loop-y.invariant.written in
    record {
      until = c.loop-y.invariant.until;
      above = omega (arith, ints, up, c.loop-y.invariant.above);
      up_to = omega (arith, ints, up, c.loop-y-test.true);
      same = next.0;
      written = subst (λ z. WroteRows p (part_with q y ws).image.now z f) (sym up) next.1;
      ready = subst (λ z. g.K.RowKernel.ready c.args.kernel.now c.depth-depth.result c.components-components.result p.rect z c.fill_row.new.cells) (sym up) (rw (← c.rect-rect.ensures) c.fill_row.ensures.next);
    }

pub returns : goal.returns
returns g c =
    let p = c.args.out.now in
    let top : to_z w64 c.loop-y.y-bits ≡ p.rect.y2 = omega (arith, ints, c.loop-y-test.false, c.loop-y.invariant.until, c.loop-y.invariant.up_to) in
    let written = rw (top, c.depth-depth.ensures, c.components-components.ensures) at c.loop-y.invariant.written in
    record { written = (c.loop-y.invariant.same, written) }

pub fill_row-requires-clause-ready : goal.fill_row-requires-clause-ready
fill_row-requires-clause-ready g c = rw c.rect-rect.ensures c.loop-y.invariant.ready
