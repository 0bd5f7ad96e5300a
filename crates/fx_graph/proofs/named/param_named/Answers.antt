use Rattle.std.proofs.Common.{◌≡◌, ◌∙◌, ap, map, subst, sym, All, length, ◌<◌, List}
use Rattle.fx_params.specs.Parameter.{Parameter}
use Rattle.fx_graph.specs.Shown.{shown}
use Rattle.fx_graph.specs.Named.{params_in, params_at}
use Rattle.fx_graph.proofs.NamedLaws.{HasParam, AreLawful, params_lawful}
use Rattle.fx_graph.proofs.named.param_named.Goals as goal

pub param_in-requires-clause-few : goal.param_in-requires-clause-few
param_in-requires-clause-few g c =
    let graph = c.args.graph.now in
    let nodes = map shown graph.nodes.items in
    let are : c.params_in.result.now ≡ params_at nodes c.args.node = c.params_in.ensures ∙ ap params_in (rw c.deref.ensures.value at c.node_in.ensures) in
    (subst AreLawful (sym are) (params_lawful g.E.ImageEffect.meaning (λ e. (g.met.E.ImageEffect.laws e).shape) (graph.depth, graph.components) nodes c.args.node graph.kept)).few

pub param_in-requires-clause-lawful : goal.param_in-requires-clause-lawful
param_in-requires-clause-lawful g c =
    let graph = c.args.graph.now in
    let nodes = map shown graph.nodes.items in
    let are : c.params_in.result.now ≡ params_at nodes c.args.node = c.params_in.ensures ∙ ap params_in (rw c.deref.ensures.value at c.node_in.ensures) in
    (subst AreLawful (sym are) (params_lawful g.E.ImageEffect.meaning (λ e. (g.met.E.ImageEffect.laws e).shape) (graph.depth, graph.components) nodes c.args.node graph.kept)).each
