use Rattle.std.proofs.Common.{◌≡◌, ◌+◌, drop, sum_by}
use Rattle.fx_seq.specs.Lists.{used_part, used_size}
use Rattle.fx_seq.proofs.store.Store.held.Given as goal

-- with what is left it is the whole
abbrev pub invariant-loop-held : goal.invariant-loop-held
invariant-loop-held l =
    let frames = l.self.frames.items in
    l.sum + sum_by (used_part l.uses l.moment) (drop l.held-index frames) ≡ used_size l.uses l.moment frames
