use Rattle.std.proofs.Common.{◌≡◌, drop}
use Rattle.fx_scene.specs.Frames.{greatest, last_greatest}
use Rattle.fx_scene.proofs.reads.greatest_of.Given as goal

abbrev pub invariant-loop-span : goal.invariant-loop-span
invariant-loop-span l = greatest l.a (drop l.span-index l.spans) ≡ last_greatest l.spans
