use Rattle.std.proofs.Common.{◌≡◌, List, [], drop, sum_by, arith, ap}
use Rattle.std.proofs.lemmas.List.{drop_all}
use Rattle.fx_seq.specs.declared.source.SourceFrame.{SourceFrame}
use Rattle.fx_seq.specs.Lists.{used_part}
use Rattle.fx_seq.proofs.LookLemmas.{sum_split}
use Rattle.fx_seq.proofs.store.Store.held.Goals as goal

pub overflow_add-sum : goal.overflow_add-sum
overflow_add-sum c =
    let more = sum_split (used_part c.args.uses.now c.args.moment) c.args.self.now.frames.items c.loop-held.held-index c.held-item.result (rw c.deref-held-items.ensures.value at c.loop-held-test.true) (rw c.deref-held-items.ensures.value at c.held-item.is) in
    let size = c.used_part-sum.ensures in
    omega (arith, more, size, c.loop-held.invariant, c.requires)

pub loop-held-preserved : goal.loop-held-preserved
loop-held-preserved c =
    let more = sum_split (used_part c.args.uses.now c.args.moment) c.args.self.now.frames.items c.loop-held.held-index c.held-item.result (rw c.deref-held-items.ensures.value at c.loop-held-test.true) (rw c.deref-held-items.ensures.value at c.held-item.is) in
    let size = c.used_part-sum.ensures in
    omega (arith, more, size, c.loop-held.invariant)

pub returns : goal.returns
returns c =
    let none : drop c.loop-held.held-index c.args.self.now.frames.items ≡ [] = drop_all c.loop-held.held-index c.args.self.now.frames.items (omega (arith, (rw c.deref-held-items.ensures.value at c.loop-held-test.false))) in
    let left = ap (λ (fs : List SourceFrame). sum_by (used_part c.args.uses.now c.args.moment) fs) none in
    omega (arith, left, c.loop-held.invariant)
