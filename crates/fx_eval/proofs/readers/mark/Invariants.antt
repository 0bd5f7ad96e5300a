use Rattle.fx_eval.proofs.ReaderLemmas.{IsMarked}
use Rattle.fx_eval.proofs.readers.mark.Given as goal

abbrev pub invariant-loop-read : goal.invariant-loop-read
invariant-loop-read l = IsMarked l.reads l.reader l.fn.last l.read-iterator l.last
