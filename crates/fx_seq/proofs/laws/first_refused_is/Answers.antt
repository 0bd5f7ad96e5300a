use Rattle.fx_seq.proofs.RefusalLaws.{first-refused, refused-first}
use Rattle.fx_seq.proofs.laws.first_refused_is.Goals as goal

pub returns : goal.returns
returns c files side limit wanted e = (first-refused files side limit wanted e, refused-first files side limit wanted e)
