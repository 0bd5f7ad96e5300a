use Rattle.fx_pool.specs.Working.{IsWorking}
use Rattle.fx_pool.proofs.numbers.run.Given as goal

abbrev pub invariant-loop : goal.invariant-loop
invariant-loop g l = IsWorking (g.J.Job.fits l.job) (g.J.Job.right l.job) g.J.Job.weight g.J.Job.out_weight l.draw l.initial.worker l.worker
