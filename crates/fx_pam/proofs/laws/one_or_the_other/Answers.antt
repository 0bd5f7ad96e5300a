use Rattle.fx_pam.proofs.FileImage.{no_fault-image}
use Rattle.fx_pam.proofs.laws.one_or_the_other.Goals as goal

pub returns : goal.returns
returns c bytes side = (no_fault-image bytes side, λ found. found.1.no_fault)
