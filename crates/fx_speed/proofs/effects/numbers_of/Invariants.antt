use Rattle.std.proofs.Common.{take}
use Rattle.std.specs.List.{AllZip}
use Rattle.fx_effect.specs.Shape.{InRange}
use Rattle.fx_speed.proofs.effects.numbers_of.Given as goal

abbrev pub invariant-loop-def : goal.invariant-loop-def
invariant-loop-def l = AllZip InRange (take l.def-index l.defs) l.numbers.items
