use Rattle.std.proofs.Common.{◌≡◌, length, map, take}
use Rattle.fx_graph.specs.Beside.{SameBesideNodes}
use Rattle.fx_graph.specs.Shown.{shown}
use Rattle.fx_scene.specs.Takes.{edited_all}
use Rattle.fx_scene.proofs.editing.edit_all.Given as goal

abbrev pub invariant-loop-edit : goal.invariant-loop-edit
invariant-loop-edit g l =
    record {
      nodes : map shown l.graph.nodes.items ≡ edited_all (take (length l.yielded) l.fn.edits.items) (map shown l.fn.graph.nodes.items);
      others : SameBesideNodes l.fn.graph l.graph;
    }
