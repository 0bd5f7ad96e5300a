use Rattle.std.proofs.Common.{◌≡◌, ◌<◌, ◌∙◌, sym, ap, subst, arith}
use Rattle.fx_directory.specs.Seats.{Made}
use Rattle.fx_pool.specs.Weights.{plus, weigh}
use Rattle.fx_tile.specs.Moments.{seat_weight}
use Rattle.fx_tile.specs.Seats.{AreAll}
use Rattle.fx_tile.proofs.SeatLemmas.{split_off, weigh_push}
use Rattle.fx_tile.proofs.share.Shared.split.Goals as goal

pub loop-preserved : goal.loop-preserved
loop-preserved g c =
    let shared = c.args.self.now in
    let old = c.loop.first in
    let new = c.split_one.new.first in
    let seats = c.loop.seats.items in
    let seat = c.in-Ok.seat in
    let items = c.push_reserved.ensures.items in
    let is = c.loop.invariant in
    let has = is.all.all in
    let some : 0 < old.directory.parts = omega (arith, has, is.count, c.loop.seats.ok.0, c.loop-test.true, c.requires.few) in
    let none : seat_weight seat ≡ (0, 0) = ap (λ (m : Made). (m.landed, m.hits)) c.in-Ok.ensures.nothing in
    record {
      count = omega (arith, c.push_reserved.ensures.len, is.count);
      room = omega (arith, c.push_reserved.ensures.capacity, is.room);
      all = subst (AreAll shared new) (sym items) (split_off shared old new seats seat is.all c.in-Ok.ensures.left some c.in-Ok.ensures.seat);
      nothing =
          ap (weigh seat_weight) items ∙ weigh_push seat_weight seats seat
          ∙ (λ i. plus (is.nothing i) (none i));
      made = ap (λ (m : Made). (m.landed, m.hits)) c.in-Ok.ensures.made ∙ is.made;
    }
