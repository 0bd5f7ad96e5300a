use Rattle.std.proofs.Common.{rules, ◌≡◌, ℕ, ◌+◌, ◌∷◌, ◌++◌, [], List, All, Some, false, length, reverse, sym, ap, ◌∙◌, subst, arith}
use Rattle.std.proofs.lemmas.List.{map-append, length-append, append-nil}
use Rattle.std.proofs.lemmas.List.Elements.{All-nil, All-pop, All-push}
use Rattle.fx_pool.specs.declared.worker.Worker.{Worker}
use Rattle.fx_pool.specs.Draws.{AllDrawn, DrawSeatState}
use Rattle.fx_pool.specs.Working.{HasEnded, numbers_of, outs_of, seats_of}
use Rattle.fx_pool.proofs.Gathering.{empty, seat_moved_on, outs_moved_on}
use Rattle.fx_pool.proofs.worker.gather.Goals as goal

pub loop-worker-preserved : goal.loop-worker-preserved
loop-worker-preserved g c =
    let inv = c.loop-worker.invariant in
    let W : Type 0 = Worker g.row.S.Denot g.row.D.Denot g.row.T.Denot in
    let Out : Type 0 = ℕ × g.row.T.Denot in
    let w : W = c.in-Some.worker in
    let more : List W = c.pop.new.self.items in
    let popped : c.loop-worker.workers.items ≡ more ++ w ∷ [] = c.in-Some.ensures.items in
    let ends = All-pop (HasEnded c.args.draw.now) c.loop-worker.workers.items more (Some w) popped inv.ended in
    let ended : HasEnded c.args.draw.now w = ends.1 in
    let both = c.join.ensures.both in
    let parts : c.join.new.seat.parts ≡ c.loop-worker.all.parts + w.draw.parts = ap (λ (s : DrawSeatState g.row.D.Denot). s.parts) both in
    let past : length c.join.new.seat.past ≡ length c.loop-worker.all.past + length w.draw.past = ap (λ (s : DrawSeatState g.row.D.Denot). length s.past) both ∙ length-append c.loop-worker.all.past w.draw.past in
    let one = ended.parts in let shorter = c.in-Some.ensures.cases in record {
      draw = search rules;
      parts = omega arith;
      all = λ all. c.join.ensures.all all;
      count = omega arith;
      room = omega arith;
      ended = ends.0;
      seats = ap (λ (l : List g.row.S.Denot). l ++ reverse (seats_of more)) c.push_reserved.ensures.items
          ∙ seat_moved_on c.loop-worker.seats.items more w _ (ap (λ (l : List W). c.loop-worker.seats.items ++ reverse (seats_of l)) (sym popped) ∙ inv.seats);
      works = λ works rest. let before = c.add.ensures.failed works in inv.works before.0 (subst (All (λ (v : W). v.failed ≡ false)) (sym popped) (All-push (λ (v : W). v.failed ≡ false) more w rest before.1));
      told = λ works some. let told = ended.told (c.add.ensures.failed works).1 in omega arith;
      numbers = λ works. let before = c.add.ensures.failed works in let kept = c.add.ensures.outs works in
          ap (λ (s : DrawSeatState g.row.D.Denot). s.drawn) both
          ∙ ((λ k. inv.numbers before.0 k ++ ended.numbers before.1 k)
          ∙ (sym (map-append {A = Out} {B = ℕ} (λ o. o.0) c.loop-worker.gathered.outs.items w.outs.items) ∙ ap numbers_of (sym kept)));
      outs = λ works. let before = c.add.ensures.failed works in let kept = c.add.ensures.outs works in
          ap (λ (l : List Out). l ++ outs_of (reverse more)) kept
          ∙ outs_moved_on c.loop-worker.gathered.outs.items more w _ (ap (λ (l : List W). c.loop-worker.gathered.outs.items ++ outs_of (reverse l)) (sym popped) ∙ inv.outs before.0);
    }

pub returns-clause-seats : goal.returns-clause-seats
returns-clause-seats g c =
    let W : Type 0 = Worker g.row.S.Denot g.row.D.Denot g.row.T.Denot in
    let none : c.loop-worker.workers.items ≡ [] = empty c.loop-worker.workers.items (omega (arith, c.in_default.ensures.cases.0)) in
    sym (append-nil c.loop-worker.seats.items)
    ∙ (ap (λ (l : List W). c.loop-worker.seats.items ++ reverse (seats_of l)) (sym none) ∙ c.loop-worker.invariant.seats)

pub returns-clause-works : goal.returns-clause-works
returns-clause-works g c = λ works.
    let W : Type 0 = Worker g.row.S.Denot g.row.D.Denot g.row.T.Denot in
    let none : c.loop-worker.workers.items ≡ [] = empty c.loop-worker.workers.items (omega (arith, c.in_default.ensures.cases.0)) in
    c.loop-worker.invariant.works works (subst (All (λ (w : W). w.failed ≡ false)) (sym none) (All-nil (λ (w : W). w.failed ≡ false)))

pub returns-clause-outs : goal.returns-clause-outs
returns-clause-outs g c = λ works.
    let W : Type 0 = Worker g.row.S.Denot g.row.D.Denot g.row.T.Denot in
    let Out : Type 0 = ℕ × g.row.T.Denot in
    let none : c.loop-worker.workers.items ≡ [] = empty c.loop-worker.workers.items (omega (arith, c.in_default.ensures.cases.0)) in
    sym (append-nil c.loop-worker.gathered.outs.items)
    ∙ (ap (λ (l : List W). c.loop-worker.gathered.outs.items ++ outs_of (reverse l)) (sym none) ∙ c.loop-worker.invariant.outs works)

pub returns-clause-numbers : goal.returns-clause-numbers
returns-clause-numbers g c = λ works.
    let inv = c.loop-worker.invariant in
    let none = c.in_default.ensures.cases.0 in
    let all = inv.all (omega arith) in
    subst (λ (z : ℕ × List ℕ). AllDrawn z.0 z.1) (λ q. (all.ended (inv.told works (omega arith)) q, inv.numbers works q)) all.each_once
