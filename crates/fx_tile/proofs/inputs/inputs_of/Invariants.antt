use Rattle.std.proofs.Common.{◌≡◌, map, take, length}
use Rattle.fx_scene.specs.Sites.{scene_nodes, seen_in}
use Rattle.fx_tile.specs.Inputs.{AreInputs}
use Rattle.fx_tile.proofs.inputs.inputs_of.Given as goal

abbrev pub invariant-loop-i : goal.invariant-loop-i
invariant-loop-i g l =
    record {
      all : l.i-end ≡ length l.needs;
      are : AreInputs (scene_nodes g.E.ImageEffect.meaning l.setup.scene.now) l.node.depth (map (seen_in l.node.components) l.node.masks.now) (take l.i l.needs) l.inputs;
    }
