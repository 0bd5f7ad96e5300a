use Rattle.std.proofs.Common.{◌≡◌, ℕ, List, All, Option, Some, length, sym, ap, subst, ◌∙◌, arith}
use Rattle.std.proofs.lemmas.List.{length-map}
use Rattle.fx_pool.specs.Draws.{DrawSeatState, all_parts}
use Rattle.fx_pool.specs.Working.{EachRight, MadeRight, numbers_below}
use Rattle.fx_pool.specs.Weights.{plus, weigh}
use Rattle.fx_pool.proofs.Together.{all_ready, all_ended, all_back, all_right, all_weigh}
use Rattle.fx_pool.proofs.Apart.{asked_of, none_of, count_of, each_right, weigh-map}
use Rattle.fx_pool.proofs.items.work_items.Goals as goal

pub run_all-requires-clause-items : goal.run_all-requires-clause-items
run_all-requires-clause-items g c κs within = record {
  count = omega (arith, ap length c.in-Ok.ensures.items, length-map c.args.items.items (λ (x : g.row.I.Denot). Some x), c.in-Ok.ensures.count);
  full = λ k e. none_of c.args.items.items k (rw (sym c.in-Ok.ensures.items) e);
}

pub run_all-requires-clause-ready : goal.run_all-requires-clause-ready
run_all-requires-clause-ready g c κs within =
    all_ready (g.J.ItemJob.fits c.args.job.now) c.in-Ok.draw c.set_up.new.workers.items c.args.seats.items c.set_up.ensures.workers c.requires.fit c.set_up.ensures.fresh

pub returns-in_default-collect-clause-back : goal.returns-in_default-collect-clause-back
returns-in_default-collect-clause-back g c =
    let back = all_back (g.J.ItemJob.fits c.args.job.now) (MadeRight (g.J.ItemJob.right c.args.job.now) c.in-Ok.draw.items) g.J.ItemJob.weight (λ m. g.J.ItemJob.out_weight m.1) c.in-Ok.draw c.set_up.new.workers.items c.run_all.new.workers.items c.run_all.ensures.count (λ i e h. (c.run_all.ensures.each i e h).worked) c.collect.new.seats.items c.collect.ensures.seats in
    let count = c.set_up.ensures.count in (omega arith, back.1)

pub returns-in-Ok-apart-clause-seats : goal.returns-in-Ok-apart-clause-seats
returns-in-Ok-apart-clause-seats g c =
    let back = all_back (g.J.ItemJob.fits c.args.job.now) (MadeRight (g.J.ItemJob.right c.args.job.now) c.in-Ok.draw.items) g.J.ItemJob.weight (λ m. g.J.ItemJob.out_weight m.1) c.in-Ok.draw c.set_up.new.workers.items c.run_all.new.workers.items c.run_all.ensures.count (λ i e h. (c.run_all.ensures.each i e h).worked) c.collect.new.seats.items c.collect.ensures.seats in
    let count = c.set_up.ensures.count in (omega arith, back.1)

pub returns-clause-back : goal.returns-clause-back
returns-clause-back g c =
    let back = all_back (g.J.ItemJob.fits c.args.job.now) (MadeRight (g.J.ItemJob.right c.args.job.now) c.in-Ok.draw.items) g.J.ItemJob.weight (λ m. g.J.ItemJob.out_weight m.1) c.in-Ok.draw c.set_up.new.workers.items c.run_all.new.workers.items c.run_all.ensures.count (λ i e h. (c.run_all.ensures.each i e h).worked) c.collect.new.seats.items c.collect.ensures.seats in
    let count = c.set_up.ensures.count in (omega arith, back.1)

pub returns-in-Ok-apart-clause-count : goal.returns-in-Ok-apart-clause-count
returns-in-Ok-apart-clause-count g c =
    let Made : Type 0 = ℕ × (g.row.I.Denot × g.row.J-Out.Denot) in
    let long = count_of c.in-Some.made.items c.in-Ok.draw.count c.in-Some.ensures.numbers in
    let count = c.in-Ok.ensures.count in (
      omega (arith, ap length c.in-Ok-apart.ensures.items, length-map c.in-Some.made.items (λ (x : Made). x.1.0)),
      omega (arith, ap length c.in-Ok-apart.ensures.outs, length-map c.in-Some.made.items (λ (x : Made). x.1.1)),
    )

pub returns-in-Ok-apart-clause-right : goal.returns-in-Ok-apart-clause-right
returns-in-Ok-apart-clause-right g c =
    let I : Type 0 = g.row.I.Denot in let T : Type 0 = g.row.J-Out.Denot in
    let right = g.J.ItemJob.right c.args.job.now in
    let made = c.in-Some.made.items in
    let long : c.in-Ok.draw.count ≡ length c.args.items.items = omega (arith, c.in-Ok.ensures.count) in
    let all = all_right (g.J.ItemJob.fits c.args.job.now) (MadeRight right c.in-Ok.draw.items) g.J.ItemJob.weight (λ m. g.J.ItemJob.out_weight m.1) c.in-Ok.draw c.set_up.new.workers.items c.run_all.new.workers.items c.run_all.ensures.count
    (λ i e h. (c.run_all.ensures.each i e h).worked) made c.in-Some.ensures.outs in
    subst (λ (z : List I × List T). EachRight right c.args.items.items z.0 z.1) (λ q. (sym c.in-Ok-apart.ensures.items q, sym c.in-Ok-apart.ensures.outs q))
    (each_right right c.args.items.items made
    (c.in-Some.ensures.numbers ∙ ap numbers_below long)
    (subst (λ (slots : List (Option I)). All (λ (o : ℕ × (I × T)). MadeRight right slots o.0 o.1) made) c.in-Ok.ensures.items all))

pub returns-in-Ok-apart-clause-weighs : goal.returns-in-Ok-apart-clause-weighs
returns-in-Ok-apart-clause-weighs g c =
    let T : Type 0 = g.row.J-Out.Denot in let Made : Type 0 = ℕ × (g.row.I.Denot × T) in
    let made = c.in-Some.made.items in
    ap (weigh g.J.ItemJob.weight) c.collect.ensures.seats
    ∙ (all_weigh (g.J.ItemJob.fits c.args.job.now) (MadeRight (g.J.ItemJob.right c.args.job.now) c.in-Ok.draw.items) g.J.ItemJob.weight (λ m. g.J.ItemJob.out_weight m.1) c.in-Ok.draw c.set_up.new.workers.items c.run_all.new.workers.items c.run_all.ensures.count
    (λ i e h. (c.run_all.ensures.each i e h).worked) c.in-Some.ensures.works c.args.seats.items c.set_up.ensures.workers made c.in-Some.ensures.outs
    ∙ ap (plus (weigh g.J.ItemJob.weight c.args.seats.items))
    (sym (weigh-map {A = Made} {B = T} (λ x. x.1.1) g.J.ItemJob.out_weight made) ∙ ap (weigh g.J.ItemJob.out_weight) (sym c.in-Ok-apart.ensures.outs)))

pub run_all-requires-clause-takes : goal.run_all-requires-clause-takes
run_all-requires-clause-takes g c κs within = asked_of (g.J.ItemJob.takes c.args.job.now) c.args.items.items c.in-Ok.draw.items c.in-Ok.ensures.items (λ k i h. c.requires.takes k i (omega arith))

pub set_up-requires-clause-draw : goal.set_up-requires-clause-draw
set_up-requires-clause-draw g c =
    let seat = c.in-Ok.ensures.seat in
    (ap (λ (s : DrawSeatState (Option g.row.I.Denot)). s.draw) seat, ap (λ (s : DrawSeatState (Option g.row.I.Denot)). s.past) seat)

pub set_up-requires-clause-parts : goal.set_up-requires-clause-parts
set_up-requires-clause-parts g c =
    let parts : c.in-Ok.all.parts ≡ all_parts = ap (λ (s : DrawSeatState (Option g.row.I.Denot)). s.parts) c.in-Ok.ensures.seat in
    omega (arith, c.requires.seats.1)

pub collect-requires-clause-draw : goal.collect-requires-clause-draw
collect-requires-clause-draw g c =
    let seat = c.in-Ok.ensures.seat in let all = c.set_up.ensures.all in (
      all.0,
      all.2 ∙ ap (λ (s : DrawSeatState (Option g.row.I.Denot)). s.drawn) seat,
      all.1 ∙ ap (λ (s : DrawSeatState (Option g.row.I.Denot)). s.past) seat,
    )

pub collect-requires-clause-parts : goal.collect-requires-clause-parts
collect-requires-clause-parts g c =
    let parts : c.in-Ok.all.parts ≡ all_parts = ap (λ (s : DrawSeatState (Option g.row.I.Denot)). s.parts) c.in-Ok.ensures.seat in
    let count = c.set_up.ensures.count in let len = c.run_all.ensures.len in
    (omega (arith, c.set_up.ensures.all.3), omega (arith, c.requires.seats.0))

pub collect-requires-clause-ended : goal.collect-requires-clause-ended
collect-requires-clause-ended g c =
    all_ended (g.J.ItemJob.fits c.args.job.now) (MadeRight (g.J.ItemJob.right c.args.job.now) c.in-Ok.draw.items) g.J.ItemJob.weight (λ m. g.J.ItemJob.out_weight m.1) c.in-Ok.draw c.set_up.new.workers.items c.run_all.new.workers.items c.run_all.ensures.count (λ i e h. (c.run_all.ensures.each i e h).worked)
