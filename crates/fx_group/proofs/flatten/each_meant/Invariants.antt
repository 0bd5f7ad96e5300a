use Rattle.std.proofs.Common.{◌≡◌, take}
use Rattle.fx_group.specs.Expansion.{meant, with_clips}
use Rattle.fx_group.proofs.flatten.each_meant.Given as goal

abbrev pub invariant-loop-clip : goal.invariant-loop-clip
invariant-loop-clip l = l.made.items ≡ with_clips (take l.clip-index l.clips) (meant l.others l.prefix)
