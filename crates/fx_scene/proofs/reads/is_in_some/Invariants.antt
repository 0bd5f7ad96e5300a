use Rattle.std.proofs.Common.{◌≡◌, drop}
use Rattle.fx_scene.specs.Frames.{in_some}
use Rattle.fx_scene.proofs.reads.is_in_some.Given as goal

abbrev pub invariant-loop-span : goal.invariant-loop-span
invariant-loop-span l = in_some (drop l.span-index l.spans) l.frame ≡ in_some l.spans l.frame
