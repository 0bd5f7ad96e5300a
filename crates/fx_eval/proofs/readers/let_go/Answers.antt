use Rattle.std.proofs.Common.{refl, inl}
use Rattle.fx_eval.proofs.ReaderLemmas.{lets_then}
use Rattle.fx_eval.proofs.readers.let_go.Goals as goal

pub loop-read-init : goal.loop-read-init
loop-read-init c m = inl refl

pub loop-read-preserved : goal.loop-read-preserved
loop-read-preserved c = lets_then c.args.last.now c.args.reader c.args.made.now c.loop-read.made c.let_go_read.new.made c.loop-read.invariant c.let_go_read.ensures
