use Rattle.std.proofs.Common.{◌≡◌, true, take}
use Rattle.fx_scene.specs.Frames.{has_frame}
use Rattle.fx_scene.specs.Reach.{Adds}
use Rattle.fx_scene.proofs.reaching.open_frames.Given as goal

abbrev pub invariant-loop-frame : goal.invariant-loop-frame
invariant-loop-frame l =
    Adds (λ n t. (n ≡ l.node) × (has_frame (take l.frame-index l.frames) t ≡ true)) l.fn.pending l.pending
