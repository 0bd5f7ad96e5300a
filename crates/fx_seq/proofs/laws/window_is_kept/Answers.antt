use Rattle.fx_seq.proofs.MomentLemmas.{begins, due_is_new, goes_on, held_are_used, holds_used, stays_small, used_are_held}
use Rattle.fx_seq.proofs.laws.window_is_kept.Goals as goal

pub returns-clause-fresh : goal.returns-clause-fresh
returns-clause-fresh c = λ uses each moment got came are come. due_is_new uses each moment got came are come

pub returns-clause-size : goal.returns-clause-size
returns-clause-size c = λ uses each files side moment got are pictures. used_are_held uses each files side moment got are pictures

pub returns-clause-left : goal.returns-clause-left
returns-clause-left c = λ uses moment store read. held_are_used uses moment store read

pub returns-clause-on : goal.returns-clause-on
returns-clause-on c = λ uses each moment came old new taken read. goes_on uses each moment came old new taken read

pub returns-clause-holds : goal.returns-clause-holds
returns-clause-holds c = λ uses each moment store read u at from until. holds_used uses each moment store read u at from until

pub returns-clause-begins : goal.returns-clause-begins
returns-clause-begins c = λ uses store held got. begins uses store held got

pub returns-clause-small : goal.returns-clause-small
returns-clause-small c = λ uses moment came old new taken. stays_small uses moment came old new taken
