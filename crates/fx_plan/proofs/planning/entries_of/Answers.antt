use Rattle.std.proofs.Common.{◌≡◌, ◌∙◌, ◌++◌, ◌∷◌, [], List, map, sym, ap, subst, All, append_assoc, AllPairs}
use Rattle.std.proofs.lemmas.List.{append-nil}
use Rattle.std.proofs.lemmas.List.Elements.{All-head, All-tail}
use Rattle.std.proofs.lemmas.Map.Iter.{rest_all, rest_more}
use Rattle.std.specs.Map.Iter.{deref}
use Rattle.fx_plan.specs.Keys.{KeyHasRect, entry_of}
use Rattle.fx_plan.specs.Plan.{IsBefore}
use Rattle.fx_plan.specs.declared.entry.Entry.{Entry}
use Rattle.fx_plan.specs.declared.entry.SortKey.{SortKey}
use Rattle.fx_plan.proofs.PlanLemmas.{sorted_entries}
use Rattle.fx_plan.proofs.planning.entries_of.Goals as goal

pub loop-key-init : goal.loop-key-init
loop-key-init c =
    let keys = c.args.keys.now.keys in
    let gives = c.into_iter-key-iterator.ensures.into_iter_gives in
    subst (λ (rest : List SortKey). (c.new-entries.result.items ++ map entry_of rest ≡ map entry_of keys) × All KeyHasRect rest) (sym gives.0)
    (ap (λ (es : List Entry). es ++ map entry_of keys) c.new-entries.ensures.items, c.requires)

pub entry-requires : goal.entry-requires
entry-requires c =
    let step = rest_more deref c.loop-key.key-iterator c.next.new.self c.next.result c.in-Some.key c.in-Some.is c.next.ensures.steps in
    All-head KeyHasRect c.in-Some.key.now c.next.new.self (subst (All KeyHasRect) step c.loop-key.invariant.1)

pub loop-key-preserved : goal.loop-key-preserved
loop-key-preserved c =
    let key = c.in-Some.key.now in
    let next = c.next.new.self in
    let old = c.loop-key.entries.items in
    let step = rest_more deref c.loop-key.key-iterator next c.next.result c.in-Some.key c.in-Some.is c.next.ensures.steps in
    let inv = c.loop-key.invariant in
    let more = c.in_ok-push.ensures.items ∙ ap (λ (e : Entry). old ++ e ∷ []) c.entry.ensures in (
      ap (λ (es : List Entry). es ++ map entry_of next) more ∙ append_assoc old (entry_of key ∷ []) (map entry_of next)
          ∙ ap (λ (ks : List SortKey). old ++ map entry_of ks) (sym step) ∙ inv.0,
      All-tail KeyHasRect key next (subst (All KeyHasRect) step inv.1),
    )

pub returns-clause-entries : goal.returns-clause-entries
returns-clause-entries c =
    let step = rest_all deref c.loop-key.key-iterator c.next.new.self c.next.result c.in-None.is c.next.ensures.steps in
    sym (append-nil c.loop-key.entries.items) ∙ ap (λ (ks : List SortKey). c.loop-key.entries.items ++ map entry_of ks) (sym step)
    ∙ c.loop-key.invariant.0

pub returns-clause-order : goal.returns-clause-order
returns-clause-order c =
    let gives = c.into_iter-key-iterator.ensures.into_iter_gives in
    subst (AllPairs IsBefore) (sym (returns-clause-entries c)) (sorted_entries c.args.keys.now.keys gives.4)
