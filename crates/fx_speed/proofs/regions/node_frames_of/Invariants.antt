use Rattle.std.proofs.Common.{pos, All}
use Rattle.fx_speed.specs.Reached.{IsReachedAt}
use Rattle.fx_speed.proofs.regions.node_frames_of.Given as goal

abbrev pub invariant-loop-node_frame : goal.invariant-loop-node_frame
invariant-loop-node_frame g l =
    record {
      listed : All (IsReachedAt g.E.ImageEffect.meaning l.scene (pos 11)) l.node_frames.items;
      left : All (IsReachedAt g.E.ImageEffect.meaning l.scene (pos 11)) l.node_frame-iterator;
    }
