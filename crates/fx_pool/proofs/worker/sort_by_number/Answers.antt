use Rattle.std.proofs.Common.{rules, ℕ, ◌≡◌, List, drop, length, sym, subst, arith}
use Rattle.std.proofs.lemmas.List.Sorted.{IsNonDecreasingBy-from_sort_by_key}
use Rattle.fx_pool.specs.Working.{numbers_of, numbers_below}
use Rattle.fx_pool.proofs.Rising.{rising, written_back}
use Rattle.fx_pool.proofs.worker.sort_by_number.Goals as goal

pub returns-clause-rising : goal.returns-clause-rising
returns-clause-rising g c = λ count all.
    let sorted = c.sort_unstable_by_key.new.self in
    let back = written_back sorted (drop (length sorted) c.args.outs.now.items) c.args.outs.now.len (let a = c.sort_unstable_by_key.ensures.len in let b = c.as_mut_slice.ensures.len in omega arith) in
    subst (λ (os : List (ℕ × g.row.T.Denot)). numbers_of os ≡ numbers_below count) (sym back)
    (rising c.as_mut_slice.result.now sorted count c.sort_unstable_by_key.ensures.permutation
    (IsNonDecreasingBy-from_sort_by_key (λ (o : ℕ × g.row.T.Denot). o.0) _ c.sort_unstable_by_key.ensures.sorted (λ a r q k. search rules))
    (rw c.as_mut_slice.ensures.value all))
