use Rattle.std.proofs.Common.{◌≡◌, map, drop, codes}
use Rattle.fx_text.specs.Paths.{inside}
use Rattle.fx_graph.specs.Shown.{shown}
use Rattle.fx_takes.specs.Shown.{take_shown}
use Rattle.fx_takes.specs.Accepted.{each_of, take_of, takes_of}
use Rattle.fx_takes.proofs.Walks.{before}
use Rattle.fx_takes.proofs.accepting.takes_of.Given as goal

abbrev pub invariant-loop-k : goal.invariant-loop-k
invariant-loop-k g l =
    before (map take_shown l.list.items) (each_of (λ k raw. take_of (map shown l.graph.nodes.items) (inside (codes "takes") k) raw) l.k (drop l.k l.raws)) ≡ takes_of (map shown l.graph.nodes.items) l.raws
