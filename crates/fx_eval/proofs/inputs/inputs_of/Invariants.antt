use Rattle.std.proofs.Common.{◌≡◌, length, map}
use Rattle.fx_scene.specs.Nodes.{clip_node}
use Rattle.fx_scene.specs.Sites.{effect_at, seen_in}
use Rattle.fx_eval.specs.Setups.{setup_nodes}
use Rattle.fx_eval.specs.Inputs.{Adds, Reads, blank}
use Rattle.fx_eval.proofs.inputs.inputs_of.Given as goal

abbrev pub invariant-loop-c : goal.invariant-loop-c
invariant-loop-c g l =
    let m = g.E.ImageEffect.meaning in
    let o = effect_at m l.setup.graph.now.project l.node in
    record {
      count : l.c-end ≡ length l.node.clips.now;
      adds : Adds (setup_nodes m l.setup) (clip_node o) (Reads o l.frame l.c) (blank l.node.depth (map (seen_in l.node.components) l.node.masks.now)) l.inputs;
    }
