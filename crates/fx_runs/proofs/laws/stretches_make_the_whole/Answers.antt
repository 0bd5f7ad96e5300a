use Rattle.fx_runs.proofs.SplitLemmas.{one_run, runs_are_such, stretches_make_whole, want_no_more}
use Rattle.fx_runs.proofs.laws.stretches_make_the_whole.Goals as goal

pub returns-clause-runs : goal.returns-clause-runs
returns-clause-runs c = runs_are_such

pub returns-clause-files : goal.returns-clause-files
returns-clause-files c = stretches_make_whole _ (one_run c.args.graph.now.file c.args.graph.now.named) c.value_depends_on_reach.ensures.pictures

pub returns-clause-wants : goal.returns-clause-wants
returns-clause-wants c = want_no_more _
