use Rattle.std.proofs.Common.{arith}
use Rattle.fx_tile.proofs.WriteLemmas.{may_write, show_each, weighs_same}
use Rattle.fx_tile.proofs.batch.write_all.Goals as goal

pub work_items-requires-clause-takes : goal.work_items-requires-clause-takes
work_items-requires-clause-takes g c κs within = λ k i low.
    may_write g.E.ImageEffect.meaning c.args.job.now c.args.bands.items c.requires.found c.requires.bands k i
    (omega (arith, low, c.args.bands.ok.0))

pub returns-clause-show : goal.returns-clause-show
returns-clause-show g c =
    let count = c.in_ok-seats.ensures.count in
    let items = c.in_ok-seats.field-0.items in
    show_each g.E.ImageEffect.meaning c.args.job.now c.args.bands.items items.items c.in_ok-seats.field-0.outs.items
    (omega (arith, count.0, c.args.bands.ok.0, items.ok.0)) c.in_ok-seats.ensures.right

pub returns-clause-rises : goal.returns-clause-rises
returns-clause-rises g c = weighs_same _ _ c.in_ok-seats.field-0.outs.items c.in_ok-seats.ensures.weighs
