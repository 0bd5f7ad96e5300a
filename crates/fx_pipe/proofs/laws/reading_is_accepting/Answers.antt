use Rattle.fx_pipe.proofs.RefusalLemmas.{frames_read, next_is_due, read_accepted, unread_refused}
use Rattle.fx_pipe.proofs.laws.reading_is_accepting.Goals as goal

pub returns-clause-accepted : goal.returns-clause-accepted
returns-clause-accepted c = λ files p each fs read. read_accepted (Unit {0}) files p tt each fs read

pub returns-clause-refused : goal.returns-clause-refused
returns-clause-refused c = λ files p each fs e read unread. unread_refused (Unit {0}) files p tt each fs e read unread

pub returns-clause-due : goal.returns-clause-due
returns-clause-due c = λ files p.
    record {
      first = λ fs read. frames_read (Unit {0}) files p fs read;
      next = λ fs f rest read. next_is_due (Unit {0}) files p fs f rest read;
    }
