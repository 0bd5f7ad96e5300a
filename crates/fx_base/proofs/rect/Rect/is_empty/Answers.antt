use Rattle.std.proofs.Common.{arith, ◌≤ℤ◌}
use Rattle.std.proofs.lemmas.Int.{ints}
use Rattle.fx_base.proofs.RectLemmas.{is_none_without_places}
use Rattle.fx_base.proofs.rect.Rect.is_empty.Goals as goal

pub returns-clause-places : goal.returns-clause-places
returns-clause-places c = (
  λ t x y h. grind (arith, ints),
  λ empty.
      let below : c.args.self.x2 ≤ℤ c.args.self.x1 = is_none_without_places c.args.self (rw (← c.self.view_is) c.self.invariant) empty in
      let inside = rw (← c.self.view_is) at below in
      grind (arith, ints, inside),
)
