use Rattle.fx_eval.specs.Readers.{LetsGo}
use Rattle.fx_eval.proofs.readers.let_go.Given as goal

abbrev pub invariant-loop-read : goal.invariant-loop-read
invariant-loop-read l = LetsGo l.last l.reader l.fn.made l.made
