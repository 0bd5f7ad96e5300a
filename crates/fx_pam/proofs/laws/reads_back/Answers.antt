use Rattle.fx_pam.proofs.ReadBack.{written_reads_back}
use Rattle.fx_pam.proofs.laws.reads_back.Goals as goal

pub returns : goal.returns
returns c format image side rest is = written_reads_back format side image rest is
