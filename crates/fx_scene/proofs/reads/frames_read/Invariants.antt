use Rattle.std.proofs.Common.{◌≡◌, map, take}
use Rattle.fx_scene.specs.Frames.{items_of}
use Rattle.fx_scene.proofs.ReadLemmas.{frames_in_vec}
use Rattle.fx_scene.proofs.reads.frames_read.Given as goal

abbrev pub invariant-loop-s : goal.invariant-loop-s
invariant-loop-s g l = map items_of l.reads.items ≡ map frames_in_vec (take l.s-index l.s-items)
