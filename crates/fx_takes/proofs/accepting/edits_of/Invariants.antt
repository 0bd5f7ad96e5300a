use Rattle.std.proofs.Common.{◌≡◌, map, drop}
use Rattle.fx_text.specs.Paths.{inside}
use Rattle.fx_graph.specs.Shown.{shown}
use Rattle.fx_takes.specs.Shown.{edit_shown}
use Rattle.fx_takes.specs.Accepted.{each_of, edit_of, edits_of}
use Rattle.fx_takes.proofs.Walks.{before}
use Rattle.fx_takes.proofs.accepting.edits_of.Given as goal

abbrev pub invariant-loop-k : goal.invariant-loop-k
invariant-loop-k g l =
    before (map edit_shown l.edits.items) (each_of (λ k raw. edit_of (map shown l.graph.nodes.items) (inside l.path k) raw) l.k (drop l.k l.raws)) ≡ edits_of (map shown l.graph.nodes.items) l.path l.raws
