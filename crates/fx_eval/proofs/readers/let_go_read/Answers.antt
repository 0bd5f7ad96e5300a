use Rattle.fx_eval.proofs.ReaderLemmas.{lets_one}
use Rattle.fx_eval.proofs.readers.let_go_read.Goals as goal

pub returns-then-is_read_last : goal.returns-then-is_read_last
returns-then-is_read_last c =
    lets_one c.args.last.now c.args.read c.args.reader c.args.made.now c.remove.new.self
    (c.is_read_last.ensures.0 c.if-is_read_last.true) c.remove.ensures.updates.0
