use Rattle.std.proofs.Common.{◌≤ℤ◌, ◌+◌, ◌*◌, pos, negsuc, ◌∙◌, ap, arith}
use Rattle.std.proofs.lemmas.Int.{ints}
use Rattle.fx_base.specs.Bounds.{Bounds, IsRect}
use Rattle.fx_image.proofs.ImageLaws.{gap_is}
use Rattle.fx_image.proofs.BandLaws.{bottom_to_top, left_to_right, band_bounds, bound_is, moved_is}
use Rattle.fx_image.proofs.bands.band_rect.Goals as goal

pub returns : goal.returns
returns c =
    let r = c.args.rect in
    let low = c.args.k * c.args.height in
    let rect : IsRect r = rw (← c.rect.view_is) c.rect.invariant in
    let near = c.requires.near in
    let order = bottom_to_top r rect in
    let wide = left_to_right r rect in
    let far : r.x1 ≤ℤ pos 1073741824 = omega (arith, ints, wide, near.right) in
    let back : negsuc 1073741823 ≤ℤ r.x2 = omega (arith, ints, wide, near.left) in
    let under : r.y1 ≤ℤ pos 1073741824 = omega (arith, ints, order, near.top) in
    let tall = gap_is r.y1 r.y2 order in
    let left = bound_is r.x1 c.rect.inside.x1 (ap (λ (b : Bounds). b.x1) c.rect.view_is) near.left far in
    let right = bound_is r.x2 c.rect.inside.x2 (ap (λ (b : Bounds). b.x2) c.rect.view_is) back near.right in
    let bottom = moved_is r.y1 c.rect.inside.y1 low (ap (λ (b : Bounds). b.y1) c.rect.view_is) near.bottom under (omega (arith, ints, c.rows_in-all.ensures.value, c.rows_in-all.ensures.small, c.requires.there)) in
    let top = moved_is r.y1 c.rect.inside.y1 (low + c.min.result) (ap (λ (b : Bounds). b.y1) c.rect.view_is) near.bottom under (omega (arith, ints, c.min.ensures, c.rows_in-all.ensures.value, c.rows_in-all.ensures.small, c.requires.there)) in
    (rw (left, bottom, right, top, c.min.ensures, c.rows_in-all.ensures.value) at c.of.ensures) ∙ band_bounds r c.args.height c.args.k rect c.requires.some_rows c.requires.there
