use Rattle.fx_runs.proofs.FrameLemmas.{text_is, reads}
use Rattle.fx_runs.proofs.laws.made_frames_are_pam.Goals as goal

pub returns : goal.returns
returns c = λ number f. (text_is number f, reads number f)
