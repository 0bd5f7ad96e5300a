use Rattle.std.proofs.Common.{◌≡◌}
use Rattle.fx_eval.specs.Setups.{setup_nodes}
use Rattle.fx_eval.specs.Wholes.{AreWhole}
use Rattle.fx_eval.proofs.OrderLemmas.{IsFront}
use Rattle.fx_eval.proofs.RenderLemmas.{IsRendering}
use Rattle.fx_eval.proofs.whole.wholes.Given as goal

abbrev pub invariant-loop-node_frame : goal.invariant-loop-node_frame
invariant-loop-node_frame g l =
    record {
      whole : AreWhole (setup_nodes g.E.ImageEffect.meaning l.setup) l.made;
      front : IsFront l.node_frames l.last l.node_frame-iterator l.made;
      renders : IsRendering (setup_nodes g.E.ImageEffect.meaning l.setup) l.node_frames.keys l.node_frame-iterator l.fn.core l.core;
      seat : l.seat ≡ l.fn.seat;
    }
