use Rattle.std.proofs.Common.{◌≡◌, drop}
use Rattle.fx_scene.specs.Frames.{least, first_least}
use Rattle.fx_scene.proofs.reads.least_of.Given as goal

abbrev pub invariant-loop-span : goal.invariant-loop-span
invariant-loop-span l = least l.a (drop l.span-index l.spans) ≡ first_least l.spans
