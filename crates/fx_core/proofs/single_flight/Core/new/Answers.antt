use Rattle.std.proofs.Common.{refl, arith}
use Rattle.fx_core.proofs.Steps.{sound_start}
use Rattle.fx_core.proofs.single_flight.Core.new.Goals as goal

pub invariant_of-result : goal.invariant_of-result
invariant_of-result g c = (sound_start g.K.PartialEq.eq g.met.K.Eq.laws _ (c.in-Ok.ensures.0, c.new-in-Ok.ensures, refl), omega arith)

pub returns-in-Ok-clause-sound : goal.returns-in-Ok-clause-sound
returns-in-Ok-clause-sound g c = sound_start g.K.PartialEq.eq g.met.K.Eq.laws _ (c.in-Ok.ensures.0, c.new-in-Ok.ensures, refl)
