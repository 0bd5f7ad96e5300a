use Rattle.std.specs.BTreeMap.{IsOrdered}
use Rattle.fx_scene.specs.Reach.{node_frame_cmp}
use Rattle.fx_scene.specs.Uses.{Notes}
use Rattle.fx_scene.proofs.moments.note_all.Given as goal

abbrev pub invariant-loop-one : goal.invariant-loop-one
invariant-loop-one l =
    record {
      notes : Notes l.yielded l.moment l.fn.table l.table;
      order : IsOrdered node_frame_cmp l.fn.table → IsOrdered node_frame_cmp l.table;
    }
