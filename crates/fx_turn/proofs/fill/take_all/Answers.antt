use Rattle.std.proofs.Common.{◌≡◌, ◌<◌, Bool, true, false, List, Option, Some, None, map, sym, subst, ◌∙◌, arith, get_or, set, take, ◌+◌, get_or-set_other, get_or-set_same, length}
use mathlib.Core.Option.{some}
use mathlib.Core.Logic.{dite}
use native.Mathlib.Decide.{ℕ_discrete}
use lib.ListN.{get_elem?}
use Rattle.std.specs.Mem.Slots.{slots_items, slots_filled, slots_counts}
use Rattle.fx_turn.proofs.Lists.{none_of, one_more}
use Rattle.fx_turn.proofs.fill.take_all.Goals as goal

pub unreachable-requires : goal.unreachable-requires
unreachable-requires g c = none_of c.requires.slots.2.0 c.loop-place.place (subst (λ (xs : List (Option g.row.V.Denot)). get_elem? xs c.loop-place.place ≡ some None) (c.loop-place.invariant.0 ∙ c.requires.slots.2.1) c.in_default.ensures.value)

pub loop-place-preserved : goal.loop-place-preserved
loop-place-preserved g c = let i = c.loop-place.place in let inv = c.loop-place.invariant in let o = c.take-slot.ensures.others in let test = c.loop-place-test.true in
    let fs : List Bool = slots_filled c.loop-place.closed.slots in let wide : i < length fs = let k = (slots_counts c.loop-place.closed.slots).1 in omega arith in (
      o.0 ∙ inv.0,
      o.2 ∙ inv.1,
      (λ k low high. subst (λ (z : List Bool). get_or z k false ≡ true) (sym o.1) (get_or-set_other fs i k false false (λ e. omega arith) ∙ inv.2 k (omega arith) high)),
      (λ k low. subst (λ (z : List Bool). get_or z k false ≡ false) (sym o.1) (dite (ℕ_discrete k i)
          (λ e. subst (λ z. get_or (set fs i false) z false ≡ false) (sym e) (get_or-set_same fs i false false wide))
          (λ ne. get_or-set_other fs i k false false ne ∙ inv.3 k (omega arith)))),
      omega arith,
      subst (λ (z : List g.row.V.Denot). map Some z ≡ take (i + 1) (slots_items c.args.closed.slots)) (sym c.push_reserved.ensures.items)
          (one_more c.loop-place.values.items (slots_items c.args.closed.slots) i c.in-Some.value inv.5 (subst (λ (xs : List (Option g.row.V.Denot)). get_elem? xs i ≡ some (Some c.in-Some.value)) inv.0 c.in-Some.ensures.value)),
      omega arith,
      omega arith,
    )
