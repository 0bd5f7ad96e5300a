use Rattle.fx_seq.proofs.RefusalLaws.{accepted-readable, readable-accepted}
use Rattle.fx_seq.proofs.laws.accepted_is.Goals as goal

pub returns : goal.returns
returns c files side limit wanted = (accepted-readable files side limit wanted, λ h. readable-accepted files side limit wanted h.0 h.1)
