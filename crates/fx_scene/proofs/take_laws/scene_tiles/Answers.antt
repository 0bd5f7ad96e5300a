use Rattle.std.proofs.Common.{◌≤◌, length, arith}
use Rattle.std.proofs.lemmas.List.{length-map}
use Rattle.fx_base.specs.declared.limits.TheConstants.{MOST_NODES}
use Rattle.fx_effect.specs.Shape.{IsProject}
use Rattle.fx_graph.specs.Shown.{shown}
use Rattle.fx_scene.specs.Scenes.{graph_shown}
use Rattle.fx_scene.proofs.MadeLemmas.{made_is_right, right_is_made}
use Rattle.fx_scene.proofs.RightLemmas.{right_stays}
use Rattle.fx_scene.proofs.ScriptLemmas.{written_few, written_project}
use Rattle.fx_scene.proofs.take_laws.scene_tiles.Goals as goal

pub returns : goal.returns
returns g c =
    let m = g.E.ImageEffect.meaning in
    let scene = c.args.scene.now in
    let graph = c.graph-graph.result.now in
    let played = c.is_played.ensures in
    let laws = g.met.E.ImageEffect.laws in
    let written = scene.script.written in
    let few = graph.rendered.few in
    let long = length-map graph.nodes.items shown in
    let is : IsProject written.project = written_project m scene.graph scene.script (graph_shown graph) played c.graph-graph.ensures.shown graph.extent in
    let low : length written.nodes ≤ MOST_NODES = written_few m scene.graph scene.script (graph_shown graph) played c.graph-graph.ensures.shown (omega (arith, few, long)) in
    record {
      stays = right_stays m written scene.script.takes laws is low played.takes;
      made = made_is_right m written scene.script.takes laws is low played.takes;
      right = right_is_made m written scene.script.takes laws is low played.takes;
    }
