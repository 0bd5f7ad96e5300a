use mir.Val.{SFits}
use Rattle.std.proofs.lemmas.Int.{to_z-of_z}
use Rattle.std.proofs.Common.{rules, w64, List, refl, ap, ◌∙◌, subst, IfOk}
use Rattle.fx_graph.specs.Shown.{Shown}
use Rattle.fx_scene.specs.Reach.{IsReach, has}
use Rattle.fx_scene.specs.Rows.{rows_in}
use Rattle.fx_scene.specs.Scenes.{graph_nodes, graph_shown, no_images}
use Rattle.fx_scene.proofs.RowLemmas.{own_are, own_same}
use Rattle.fx_scene.proofs.reaching.reach.Goals as goal

pub reach_with-requires-clause-rows : goal.reach_with-requires-clause-rows
reach_with-requires-clause-rows g c =
    let graph = c.args.graph.now in
    own_are g.E.ImageEffect.meaning (graph_shown graph) graph.nodes.items refl (rows_in c.as_slice.result.now)
    (ap rows_in c.as_slice.ensures.value ∙ c.in_ok-rows.ensures) graph.kept

pub returns-clause-least : goal.returns-clause-least
returns-clause-least g c =
    let graph = c.args.graph.now in
    let over = graph_shown graph in
    let m = g.E.ImageEffect.meaning in
    let fits : SFits w64 c.args.first = search rules in
    let fits_last : SFits w64 c.args.last = search rules in
    subst (λ (ns : List (Shown _)). IfOk c.reach_with.result (λ s. IsReach (graph_nodes m (record over { nodes = ns }) no_images) graph.output c.args.first c.args.last (has s)))
    (own_same m over graph.nodes.items refl (rows_in c.as_slice.result.now) (ap rows_in c.as_slice.ensures.value ∙ c.in_ok-rows.ensures))
    (simp to_z-of_z at c.reach_with.ensures.least)
