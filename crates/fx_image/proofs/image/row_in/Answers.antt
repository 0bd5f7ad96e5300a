use Rattle.std.proofs.Common.{arith, ap}
use Rattle.std.proofs.lemmas.Int.{ints}
use Rattle.fx_base.specs.Bounds.{Bounds}
use Rattle.fx_image.proofs.image.row_in.Goals as goal

pub overflow_cast-result : goal.overflow_cast-result
overflow_cast-result c =
    let bottom = ap (λ (r : Bounds). r.y1) c.rect.view_is in
    let top = ap (λ (r : Bounds). r.y2) c.rect.view_is in
    grind (arith, ints)
