use Rattle.std.proofs.Common.{◌≡◌, ap, ◌∙◌, arith}
use Rattle.fx_pool.specs.Draws.{DrawSeatState, all_parts}
use Rattle.fx_pool.specs.Weights.{weigh}
use Rattle.fx_pool.specs.Working.{numbers_below}
use Rattle.fx_pool.proofs.Together.{all_ready, all_ended, all_back, all_right, all_weigh}
use Rattle.fx_pool.proofs.numbers.work.Goals as goal

pub run_all-requires-clause-ready : goal.run_all-requires-clause-ready
run_all-requires-clause-ready g c κs within =
    all_ready (g.J.Job.fits c.args.job.now) c.in-Ok.draw c.set_up.new.workers.items c.args.seats.items c.set_up.ensures.workers c.requires.fit c.set_up.ensures.fresh

pub returns-in-Some-clause-seats : goal.returns-in-Some-clause-seats
returns-in-Some-clause-seats g c =
    let back = all_back (g.J.Job.fits c.args.job.now) (g.J.Job.right c.args.job.now) g.J.Job.weight g.J.Job.out_weight c.in-Ok.draw c.set_up.new.workers.items c.run_all.new.workers.items c.run_all.ensures.count c.run_all.ensures.each c.collect.new.seats.items c.collect.ensures.seats in
    let count = c.set_up.ensures.count in (omega arith, back.1)

pub returns-clause-back : goal.returns-clause-back
returns-clause-back g c =
    let back = all_back (g.J.Job.fits c.args.job.now) (g.J.Job.right c.args.job.now) g.J.Job.weight g.J.Job.out_weight c.in-Ok.draw c.set_up.new.workers.items c.run_all.new.workers.items c.run_all.ensures.count c.run_all.ensures.each c.collect.new.seats.items c.collect.ensures.seats in
    let count = c.set_up.ensures.count in (omega arith, back.1)

pub returns-in-Some-clause-right : goal.returns-in-Some-clause-right
returns-in-Some-clause-right g c =
    all_right (g.J.Job.fits c.args.job.now) (g.J.Job.right c.args.job.now) g.J.Job.weight g.J.Job.out_weight c.in-Ok.draw c.set_up.new.workers.items c.run_all.new.workers.items c.run_all.ensures.count c.run_all.ensures.each
    c.in-Some.outs.items c.in-Some.ensures.outs

pub returns-in-Some-clause-weighs : goal.returns-in-Some-clause-weighs
returns-in-Some-clause-weighs g c =
    ap (weigh g.J.Job.weight) c.collect.ensures.seats
    ∙ all_weigh (g.J.Job.fits c.args.job.now) (g.J.Job.right c.args.job.now) g.J.Job.weight g.J.Job.out_weight c.in-Ok.draw c.set_up.new.workers.items c.run_all.new.workers.items c.run_all.ensures.count c.run_all.ensures.each
    c.in-Some.ensures.works c.args.seats.items c.set_up.ensures.workers c.in-Some.outs.items c.in-Some.ensures.outs

pub set_up-requires-clause-draw : goal.set_up-requires-clause-draw
set_up-requires-clause-draw g c =
    let seat = c.in-Ok.ensures.seat in
    (ap (λ (s : DrawSeatState (Unit {0})). s.draw) seat, ap (λ (s : DrawSeatState (Unit {0})). s.past) seat)

pub set_up-requires-clause-parts : goal.set_up-requires-clause-parts
set_up-requires-clause-parts g c =
    let parts : c.in-Ok.all.parts ≡ all_parts = ap (λ (s : DrawSeatState (Unit {0})). s.parts) c.in-Ok.ensures.seat in
    omega (arith, c.requires.seats.1)

pub collect-requires-clause-draw : goal.collect-requires-clause-draw
collect-requires-clause-draw g c =
    let seat = c.in-Ok.ensures.seat in let all = c.set_up.ensures.all in (
      all.0,
      all.2 ∙ ap (λ (s : DrawSeatState (Unit {0})). s.drawn) seat,
      all.1 ∙ ap (λ (s : DrawSeatState (Unit {0})). s.past) seat,
    )

pub collect-requires-clause-parts : goal.collect-requires-clause-parts
collect-requires-clause-parts g c =
    let parts : c.in-Ok.all.parts ≡ all_parts = ap (λ (s : DrawSeatState (Unit {0})). s.parts) c.in-Ok.ensures.seat in
    let count = c.set_up.ensures.count in let len = c.run_all.ensures.len in
    (omega (arith, c.set_up.ensures.all.3), omega (arith, c.requires.seats.0))

pub collect-requires-clause-ended : goal.collect-requires-clause-ended
collect-requires-clause-ended g c =
    all_ended (g.J.Job.fits c.args.job.now) (g.J.Job.right c.args.job.now) g.J.Job.weight g.J.Job.out_weight c.in-Ok.draw c.set_up.new.workers.items c.run_all.new.workers.items c.run_all.ensures.count c.run_all.ensures.each

pub returns-in-Some-clause-numbers : goal.returns-in-Some-clause-numbers
returns-in-Some-clause-numbers g c = c.in-Some.ensures.numbers ∙ ap numbers_below c.in-Ok.ensures.count
