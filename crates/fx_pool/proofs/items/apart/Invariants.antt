use Rattle.std.proofs.Common.{◌≡◌, ◌+◌, ◌≤◌, ◌++◌, map, reverse, vec_capacity, vec_len}
use Rattle.fx_pool.proofs.items.apart.Given as goal

abbrev pub invariant-loop-item : goal.invariant-loop-item
invariant-loop-item g l = record {
  items : l.items.items ++ map (λ out. out.1.0) (reverse l.made.items) ≡ map (λ out. out.1.0) (reverse l.initial.made.items);
  outs : l.outs.items ++ map (λ out. out.1.1) (reverse l.made.items) ≡ map (λ out. out.1.1) (reverse l.initial.made.items);
  count : vec_len l.items + vec_len l.made ≡ vec_len l.initial.made;
  same : vec_len l.outs ≡ vec_len l.items;
  room : vec_len l.initial.made ≤ vec_capacity l.items;
  other_room : vec_len l.initial.made ≤ vec_capacity l.outs;
}

abbrev pub decreases-loop-item : goal.decreases-loop-item
decreases-loop-item g l = vec_len l.made
