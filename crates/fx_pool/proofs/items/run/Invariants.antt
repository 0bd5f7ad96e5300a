use Rattle.fx_pool.specs.Working.{IsWorking, MadeRight}
use Rattle.fx_pool.proofs.items.run.Given as goal

abbrev pub invariant-loop : goal.invariant-loop
invariant-loop g l = IsWorking (g.J.ItemJob.fits l.job) (MadeRight (g.J.ItemJob.right l.job) l.draw.items) g.J.ItemJob.weight (λ made. g.J.ItemJob.out_weight made.1) l.draw l.initial.worker l.worker
