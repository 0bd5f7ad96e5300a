use Rattle.std.proofs.Common.{rules, ◌≡◌, ◌<◌, ap, ◌∙◌, arith, length, subst, sym, w64}
use Rattle.std.proofs.lemmas.List.{length-map}
use Rattle.std.proofs.lemmas.Int.{to_z-of_z}
use mir.Val.{SFits}
use Rattle.std.proofs.lemmas.Result.{IfOk-weaker}
use Rattle.fx_effect.specs.declared.values.Values.{Values}
use Rattle.fx_graph.specs.Shown.{GraphShown, does_of, shown}
use Rattle.fx_scene.specs.Scenes.{Shot, graph_shown, node_values, values_at}
use Rattle.fx_scene.proofs.GraphLemmas.{shown_at}
use Rattle.fx_scene.proofs.ScriptLemmas.{asked_with}
use Rattle.fx_scene.proofs.scene.Scene.values.Goals as goal

pub returns : goal.returns
returns g c =
    let fits : SFits w64 c.args.frame = c.ranges.frame in
    let graph = c.self.inside.graph in
    let node = c.index.result.now in
    let same : graph_shown graph ≡ c.args.self.now.graph = ap (λ (s : Shot _). s.graph) c.self.view_is in
    let long = length-map graph.nodes.items shown in
    let low = subst (λ (s : GraphShown _). c.args.node < length s.nodes) (sym same) c.requires in
    IfOk-weaker c.values_of.result (λ (v : Values). v ≡ values_at graph.project c.args.frame (does_of node.work))
    (λ (v : Values). v ≡ node_values c.args.self.now.graph c.args.node c.args.frame)
    (λ v is. is ∙ asked_with graph c.args.self.now.graph same c.args.node node c.args.frame (shown_at graph.nodes.items c.args.node node (omega (arith, long, low)) (search rules)))
    (simp to_z-of_z at c.values_of.ensures)
