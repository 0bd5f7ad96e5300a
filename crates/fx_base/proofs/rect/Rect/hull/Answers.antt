use Rattle.std.proofs.Common.{◌∙◌, sym, subst, arith}
use Rattle.std.proofs.lemmas.Bool.{both_ways}
use Rattle.std.proofs.lemmas.Int.{to_z-of_z}
use Rattle.fx_base.specs.Bounds.{IsRect}
use Rattle.fx_base.specs.Rect.{IsWithin, IsUpTo}
use Rattle.fx_base.proofs.RectLemmas.{IsProper, IsProper-from_rect, is_empty-proper, is_empty-none, IsProper-hull, IsRect-proper, hull-second_empty, hull_made, IsWithin-hull_first, IsWithin-hull_second, IsWithin-hull}
use Rattle.fx_base.proofs.RectLaws.{IsUpTo-hull}
use Rattle.fx_base.proofs.rect.Rect.hull.Goals as goal

pub returns-then-is_empty-2-clause-bounds : goal.returns-then-is_empty-2-clause-bounds
returns-then-is_empty-2-clause-bounds c =
    let proper : IsProper c.args.self = IsProper-from_rect c.args.self (rw (← c.self.view_is) c.self.invariant) (λ e. both_ways _ c.if-is_empty.false (c.is_empty.ensures.bounds.1 e)) in
    c.self.view_is ∙ sym (hull-second_empty c.args.self c.args.other (is_empty-proper c.args.self proper) (is_empty-none c.args.other (c.is_empty-else-is_empty.ensures.bounds.0 c.if-is_empty-2.true)))

pub returns-then-is_empty-2-clause-holds_other : goal.returns-then-is_empty-2-clause-holds_other
returns-then-is_empty-2-clause-holds_other c = subst (IsWithin c.args.other) (sym (returns-then-is_empty-2-clause-bounds c)) (IsWithin-hull_second c.args.self c.args.other)

pub returns-else-is_empty-2-clause-bounds : goal.returns-else-is_empty-2-clause-bounds
returns-else-is_empty-2-clause-bounds c =
    let first : IsProper c.args.self = IsProper-from_rect c.args.self (rw (← c.self.view_is) c.self.invariant) (λ e. both_ways _ c.if-is_empty.false (c.is_empty.ensures.bounds.1 e)) in
    let second : IsProper c.args.other = IsProper-from_rect c.args.other (rw (← c.other.view_is) c.other.invariant) (λ e. both_ways _ c.if-is_empty-2.false (c.is_empty-else-is_empty.ensures.bounds.1 e)) in
    hull_made c.args.self c.args.other _ _ _ _ first second
    (rw (← c.self.view_is, ← c.other.view_is) (grind (arith, to_z-of_z)))
    (rw (← c.self.view_is, ← c.other.view_is) (grind (arith, to_z-of_z)))
    (rw (← c.self.view_is, ← c.other.view_is) (grind (arith, to_z-of_z)))
    (rw (← c.self.view_is, ← c.other.view_is) (grind (arith, to_z-of_z)))

pub invariant_of-result : goal.invariant_of-result
invariant_of-result c =
    let first : IsProper c.args.self = IsProper-from_rect c.args.self (rw (← c.self.view_is) c.self.invariant) (λ e. both_ways _ c.if-is_empty.false (c.is_empty.ensures.bounds.1 e)) in
    let second : IsProper c.args.other = IsProper-from_rect c.args.other (rw (← c.other.view_is) c.other.invariant) (λ e. both_ways _ c.if-is_empty-2.false (c.is_empty-else-is_empty.ensures.bounds.1 e)) in
    subst IsRect (sym (returns-else-is_empty-2-clause-bounds c)) (IsRect-proper _ (IsProper-hull c.args.self c.args.other first second))

pub returns-else-is_empty-2-clause-holds_self : goal.returns-else-is_empty-2-clause-holds_self
returns-else-is_empty-2-clause-holds_self c = subst (IsWithin c.args.self) (sym (returns-else-is_empty-2-clause-bounds c)) (IsWithin-hull_first c.args.self c.args.other)

pub returns-else-is_empty-2-clause-holds_other : goal.returns-else-is_empty-2-clause-holds_other
returns-else-is_empty-2-clause-holds_other c = subst (IsWithin c.args.other) (sym (returns-else-is_empty-2-clause-bounds c)) (IsWithin-hull_second c.args.self c.args.other)

pub returns-else-is_empty-2-clause-smallest : goal.returns-else-is_empty-2-clause-smallest
returns-else-is_empty-2-clause-smallest c t first second = subst (λ b. IsWithin b t) (sym (returns-else-is_empty-2-clause-bounds c)) (IsWithin-hull c.args.self c.args.other t first second)

pub returns-else-is_empty-2-clause-reach : goal.returns-else-is_empty-2-clause-reach
returns-else-is_empty-2-clause-reach c n first second =
    subst (IsUpTo n) (sym (returns-else-is_empty-2-clause-bounds c)) (IsUpTo-hull n c.args.self c.args.other first second)
