use Rattle.std.proofs.Common.{◌≡◌, List, take}
use Rattle.std.specs.List.{AllZip, list_all}
use Rattle.fx_effect.specs.Shape.{Shape, Clip}
use Rattle.fx_effect.specs.Described.{DescribesClip}
use Rattle.fx_graph.specs.Described.{clip_takes}
use Rattle.fx_graph.proofs.described.clips_of.Given as goal

abbrev pub invariant-loop-set : goal.invariant-loop-set
invariant-loop-set l = (s : Shape) (clips : List Clip) → AllZip (DescribesClip s) clips l.sets → (l.inputs.items ≡ take l.set-index clips) × (l.alpha ≡ list_all (clip_takes s) (take l.set-index clips))
