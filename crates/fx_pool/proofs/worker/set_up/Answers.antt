use Rattle.std.proofs.Common.{◌≡◌, ◌-◌, ◌++◌, List, All, false, reverse, refl, sym, ap, ◌∙◌, subst, arith}
use Rattle.std.proofs.lemmas.List.Elements.{All-push}
use Rattle.fx_pool.specs.declared.worker.Worker.{Worker}
use Rattle.fx_pool.specs.Draws.{DrawSeatState}
use Rattle.fx_pool.specs.Working.{IsFresh, fresh_seat, seats_of}
use Rattle.fx_pool.proofs.Gathering.{one_seated}
use Rattle.fx_pool.proofs.worker.set_up.Goals as goal

pub loop-seat-preserved : goal.loop-seat-preserved
loop-seat-preserved g c =
    let inv = c.loop-seat.invariant in
    let W : Type 0 = Worker g.row.S.Denot g.row.D.Denot g.row.T.Denot in
    let S : Type 0 = g.row.S.Denot in
    let ws = c.loop-seat.workers.items in
    let more = c.pop.new.self.items in
    let w : W = record { seat = c.in-Some.seat; draw = c.part.result; outs = c.new.result; failed = false } in
    let left = c.part.ensures.left in
    let parts : c.part.new.seat.parts ≡ c.loop-seat.all.parts - 1 = ap (λ (s : DrawSeatState g.row.D.Denot). s.parts) left in
    let pushed = c.push_reserved.ensures.len in let shorter = c.in-Some.ensures.cases in
    let fresh : IsFresh c.args.draw.now w = record {
      draw = c.part.ensures.new ∙ ap fresh_seat inv.draw;
      outs = c.new.ensures.items;
      works = refl;
    } in record {
      draw = ap (λ (s : DrawSeatState g.row.D.Denot). s.draw) left ∙ inv.draw;
      past = ap (λ (s : DrawSeatState g.row.D.Denot). s.past) left ∙ inv.past;
      drawn = ap (λ (s : DrawSeatState g.row.D.Denot). s.drawn) left ∙ inv.drawn;
      parts = omega (arith, inv.parts, inv.count, c.requires.parts);
      count = omega (arith, inv.count);
      kept = c.in-Some.ensures.capacity ∙ inv.kept;
      room = omega (arith, c.push_reserved.ensures.capacity, inv.room);
      seats = ap (λ (l : List W). seats_of l ++ reverse more) c.push_reserved.ensures.items
          ∙ one_seated ws w more _ (ap (λ (l : List S). seats_of ws ++ reverse l) (sym c.in-Some.ensures.items) ∙ inv.seats);
      fresh = subst (All (IsFresh c.args.draw.now)) (sym c.push_reserved.ensures.items) (All-push (IsFresh c.args.draw.now) ws w inv.fresh fresh);
    }
