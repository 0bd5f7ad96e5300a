use Rattle.std.proofs.Common.{arith, ap}
use Rattle.std.proofs.lemmas.Int.{ints}
use Rattle.fx_base.specs.Bounds.{Bounds}
use Rattle.fx_image.proofs.image.column_in.Goals as goal

pub overflow_cast-result : goal.overflow_cast-result
overflow_cast-result c =
    let left = ap (λ (r : Bounds). r.x1) c.rect.view_is in
    let right = ap (λ (r : Bounds). r.x2) c.rect.view_is in
    grind (arith, ints)
