use Rattle.std.proofs.Common.{List, pos, refl, ap, ◌∙◌, subst, IfOk}
use Rattle.fx_graph.specs.Shown.{Shown}
use Rattle.fx_scene.specs.Rows.{rows_in}
use Rattle.fx_scene.specs.Scenes.{graph_nodes, graph_shown, no_images}
use Rattle.fx_scene.specs.Wants.{AreWanted}
use Rattle.fx_scene.proofs.RowLemmas.{own_are, own_same}
use Rattle.fx_scene.proofs.wanting.wants.Goals as goal

pub wants_with-requires-clause-rows : goal.wants_with-requires-clause-rows
wants_with-requires-clause-rows g c =
    let graph = c.args.graph.now in
    own_are g.E.ImageEffect.meaning (graph_shown graph) graph.nodes.items refl (rows_in c.as_slice.result.now)
    (ap rows_in c.as_slice.ensures.value ∙ c.in_ok-rows.ensures) graph.kept

pub returns-clause-exact : goal.returns-clause-exact
returns-clause-exact g c =
    let graph = c.args.graph.now in
    let over = graph_shown graph in
    let m = g.E.ImageEffect.meaning in
    subst (λ (ns : List (Shown _)). IfOk c.wants_with.result (λ w. AreWanted (graph_nodes m (record over { nodes = ns }) no_images) graph.output (pos c.args.first) (pos c.args.last) w.items))
    (own_same m over graph.nodes.items refl (rows_in c.as_slice.result.now) (ap rows_in c.as_slice.ensures.value ∙ c.in_ok-rows.ensures))
    c.wants_with.ensures.exact
