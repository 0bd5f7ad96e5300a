use Rattle.std.proofs.Common.{◌≡◌, ◌++◌}
use Rattle.std.specs.List.{filter}
use Rattle.fx_scene.specs.Frames.{in_some, frames_of}
use Rattle.fx_scene.specs.Frames.{int_span}
use Rattle.fx_scene.proofs.reads.frames_in.Given as goal

abbrev pub invariant-loop-f : goal.invariant-loop-f
invariant-loop-f l = l.frames.items ++ filter (in_some l.spans) (int_span l.f l.last) ≡ frames_of l.spans
