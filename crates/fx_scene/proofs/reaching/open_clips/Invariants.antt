use Rattle.std.proofs.Common.{map, take}
use Rattle.fx_scene.specs.Frames.{items_of}
use Rattle.fx_scene.specs.Reach.{Adds, IsClipRead}
use Rattle.fx_scene.proofs.reaching.open_clips.Given as goal

abbrev pub invariant-loop-c : goal.invariant-loop-c
invariant-loop-c l = Adds (IsClipRead l.clips (take l.c (map items_of l.reads))) l.fn.pending l.pending
