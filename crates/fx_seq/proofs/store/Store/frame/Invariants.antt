use Rattle.std.proofs.Common.{◌≡◌, drop}
use Rattle.fx_seq.specs.Lists.{frames_in}
use Rattle.fx_seq.proofs.store.Store.frame.Given as goal

-- it is among those that are left
abbrev pub invariant-loop-held : goal.invariant-loop-held
invariant-loop-held l =
    let items = l.self.frames.items in
    frames_in items l.node l.frame ≡ frames_in (drop l.held-index items) l.node l.frame
