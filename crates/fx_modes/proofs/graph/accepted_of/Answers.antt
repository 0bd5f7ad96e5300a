use Rattle.std.proofs.Common.{◌∙◌, sym}
use Rattle.std.proofs.lemmas.Result.{err_from_is_err_and}
use Rattle.fx_scene.specs.Scenes.{graph_shown}
use Rattle.fx_modes.proofs.GraphLemmas.{not_accepted, takes_apart, takes_are, takes_given, takes_right, takes_wrong}
use Rattle.fx_modes.proofs.graph.accepted_of.Goals as goal

pub returns-in_err-graph-clause-refused : goal.returns-in_err-graph-clause-refused
returns-in_err-graph-clause-refused c =
    let p = err_from_is_err_and c.from_residual.result c.from_residual.ensures.1 in
    rw (p.1, p.2) (λ some. not_accepted c.args.raw _
    (sym (takes_apart c.args.raw _ c.take_takes-takes.ensures.left) ∙ c.in_err-graph.ensures.refused some))

pub returns-in_err-takes-clause-refused : goal.returns-in_err-takes-clause-refused
returns-in_err-takes-clause-refused c =
    let p = err_from_is_err_and c.from_residual-in_err-takes.result c.from_residual-in_err-takes.ensures.1 in
    rw (p.1, p.2) (λ some. takes_wrong c.args.raw (graph_shown c.in_ok-graph.graph) _
    (sym (takes_apart c.args.raw _ c.take_takes-takes.ensures.left) ∙ c.in_ok-graph.ensures.accepted)
    (takes_given (graph_shown c.in_ok-graph.graph).nodes c.args.raw _ _ c.take_takes-takes.ensures.takes (c.in_err-takes.ensures.refused some)))

pub returns-clause-takes : goal.returns-clause-takes
returns-clause-takes c =
    takes_are (graph_shown c.in_ok-graph.graph).nodes _ c.in_ok-takes.takes.list.items c.take_takes-takes.ensures.few
    c.in_ok-takes.ensures.accepted c.in_ok-takes.ensures.edits

pub returns-clause-ok : goal.returns-clause-ok
returns-clause-ok c = takes_right c.args.raw (graph_shown c.in_ok-graph.graph) _
    (sym (takes_apart c.args.raw _ c.take_takes-takes.ensures.left) ∙ c.in_ok-graph.ensures.accepted)
    (takes_given (graph_shown c.in_ok-graph.graph).nodes c.args.raw _ _ c.take_takes-takes.ensures.takes c.in_ok-takes.ensures.accepted)
