use Rattle.std.proofs.Common.{◌≡◌, ◌++◌, [], map, take}
use Rattle.std.specs.Arc.{arc_value}
use Rattle.fx_eval.specs.Inputs.{piece_of}
use Rattle.fx_eval.proofs.inputs.add_images.Given as goal

abbrev pub invariant-loop-image : goal.invariant-loop-image
invariant-loop-image l = l.inputs ≡ record l.fn.inputs { pieces = l.fn.inputs.pieces ++ map (piece_of l.c l.f []) (map arc_value (take l.image-index l.images)) }
