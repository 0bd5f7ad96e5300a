use Rattle.std.proofs.Common.{rules, ℤ, pos, subst, w64}
use Rattle.std.proofs.lemmas.Int.{to_z-of_z}
use mir.Val.{SFits}
use Rattle.fx_scene.specs.Reach.{IsReach, has}
use Rattle.fx_scene.specs.Rows.{graph_with, rows_in}
use Rattle.fx_scene.specs.Scenes.{graph_nodes, graph_shown, no_images}
use Rattle.fx_scene.proofs.RowLemmas.{show_same}
use Rattle.fx_scene.proofs.wanting.wants_with.Goals as goal

pub returns-clause-exact : goal.returns-clause-exact
returns-clause-exact g c =
    let over = graph_shown c.args.graph.now in
    let rows = rows_in c.args.rows.now in
    let m = g.E.ImageEffect.meaning in
    let nodes = graph_nodes m (graph_with over rows) no_images in
    let output = c.args.graph.now.output in
    let node_frames = c.in_ok-node_frames.node_frames in
    let f1 : SFits w64 c.from.result = search rules in
    let f2 : SFits w64 c.from-2.result = search rules in
    let least = simp to_z-of_z at c.in_ok-node_frames.ensures.least in
    c.wants_at.ensures.exact nodes (show_same m over rows c.requires.rows.long) output (pos c.args.first) (pos c.args.last)
    (subst (λ (z : ℤ). IsReach nodes output z (pos c.args.last) (has node_frames)) c.from.ensures
    (subst (λ (z : ℤ). IsReach nodes output c.from.result z (has node_frames)) c.from-2.ensures least))
