use Rattle.fx_core.proofs.Soundness.{sound_step}
use Rattle.fx_core.proofs.Runs.{sound_run, last_is_here, flies_alone, flies_once, numbers_differ}
use Rattle.fx_core.proofs.Tally.{counts_run}
use Rattle.fx_core.proofs.laws.every_run.Goals as goal

pub returns-clause-keeps : goal.returns-clause-keeps
returns-clause-keeps g c = λ s t e r sound h. sound_step g.K.PartialEq.eq g.met.K.Eq.laws s t e r sound h

pub returns-clause-sound : goal.returns-clause-sound
returns-clause-sound g c = sound_run g.K.PartialEq.eq g.met.K.Eq.laws

pub returns-clause-here : goal.returns-clause-here
returns-clause-here g c = last_is_here g.K.PartialEq.eq g.met.K.Eq.laws

pub returns-clause-flies : goal.returns-clause-flies
returns-clause-flies g c = flies_alone g.K.PartialEq.eq g.met.K.Eq.laws

pub returns-clause-once : goal.returns-clause-once
returns-clause-once g c = flies_once g.K.PartialEq.eq g.met.K.Eq.laws

pub returns-clause-numbers : goal.returns-clause-numbers
returns-clause-numbers g c = numbers_differ g.K.PartialEq.eq g.met.K.Eq.laws

pub returns-clause-totals : goal.returns-clause-totals
returns-clause-totals g c = counts_run g.K.PartialEq.eq
