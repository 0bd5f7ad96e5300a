use Rattle.std.proofs.Common.{sym, subst, arith}
use Rattle.std.proofs.lemmas.Bool.{both_ways}
use Rattle.std.proofs.lemmas.Int.{ints}
use Rattle.fx_base.specs.Bounds.{IsRect}
use Rattle.fx_base.proofs.RectLemmas.{IsProper, IsProper-from_rect, IsProper-stretched, IsRect-proper, stretched_made}
use Rattle.fx_base.proofs.rect.Rect.stretched.Goals as goal

pub overflow_add-result : goal.overflow_add-result
overflow_add-result c =
    let near = rw (← c.self.view_is) at c.requires.near in
    let proper : IsProper c.args.self = IsProper-from_rect c.args.self (rw (← c.self.view_is) c.self.invariant) (λ e. both_ways _ c.if-is_empty.false (c.is_empty.ensures.bounds.1 e)) in
    let some = rw (← c.self.view_is) at proper in
    omega (arith, ints)

pub overflow_add-result-2 : goal.overflow_add-result-2
overflow_add-result-2 c =
    let near = rw (← c.self.view_is) at c.requires.near in
    let proper : IsProper c.args.self = IsProper-from_rect c.args.self (rw (← c.self.view_is) c.self.invariant) (λ e. both_ways _ c.if-is_empty.false (c.is_empty.ensures.bounds.1 e)) in
    let some = rw (← c.self.view_is) at proper in
    omega (arith, ints)

pub overflow_add-result-3 : goal.overflow_add-result-3
overflow_add-result-3 c =
    let near = rw (← c.self.view_is) at c.requires.near in
    let proper : IsProper c.args.self = IsProper-from_rect c.args.self (rw (← c.self.view_is) c.self.invariant) (λ e. both_ways _ c.if-is_empty.false (c.is_empty.ensures.bounds.1 e)) in
    let some = rw (← c.self.view_is) at proper in
    omega (arith, ints)

pub overflow_add-result-4 : goal.overflow_add-result-4
overflow_add-result-4 c =
    let near = rw (← c.self.view_is) at c.requires.near in
    let proper : IsProper c.args.self = IsProper-from_rect c.args.self (rw (← c.self.view_is) c.self.invariant) (λ e. both_ways _ c.if-is_empty.false (c.is_empty.ensures.bounds.1 e)) in
    let some = rw (← c.self.view_is) at proper in
    omega (arith, ints)

pub returns : goal.returns
returns c =
    let near = rw (← c.self.view_is) at c.requires.near in
    let proper : IsProper c.args.self = IsProper-from_rect c.args.self (rw (← c.self.view_is) c.self.invariant) (λ e. both_ways _ c.if-is_empty.false (c.is_empty.ensures.bounds.1 e)) in
    let some = rw (← c.self.view_is) at proper in
    stretched_made c.args.self c.args.left c.args.bottom c.args.right c.args.top _ _ _ _ proper
    (rw (← c.self.view_is) (omega (arith, ints)))
    (rw (← c.self.view_is) (omega (arith, ints)))
    (rw (← c.self.view_is) (omega (arith, ints)))
    (rw (← c.self.view_is) (omega (arith, ints)))

pub invariant_of-result-2 : goal.invariant_of-result-2
invariant_of-result-2 c =
    let proper : IsProper c.args.self = IsProper-from_rect c.args.self (rw (← c.self.view_is) c.self.invariant) (λ e. both_ways _ c.if-is_empty.false (c.is_empty.ensures.bounds.1 e)) in
    subst IsRect (sym (returns c)) (IsRect-proper _ (IsProper-stretched c.args.self c.args.left c.args.bottom c.args.right c.args.top proper c.requires.columns c.requires.rows))
