use Rattle.fx_text.proofs.PrintedLaws.{printed_back}
use Rattle.fx_text.proofs.law.printed_graph_reads_back.Goals as goal

pub returns : goal.returns
returns c = printed_back
