use Rattle.std.proofs.Common.{map}
use Rattle.fx_graph.specs.Shown.{shown}
use Rattle.fx_takes.proofs.EditLaws.{edits_are}
use Rattle.fx_takes.proofs.accepting.accept_takes.Goals as goal

pub returns-clause-edits : goal.returns-clause-edits
returns-clause-edits g c =
    edits_are (map shown c.args.graph.now.nodes.items) c.deref.result.now c.in_ok-list.list.items c.in_ok-list.ensures.ok
