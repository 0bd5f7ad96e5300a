use Rattle.std.proofs.Common.{◌≡◌, ◌++◌, ◌∷◌, [], ◌∙◌, List, Some, sym, ap, subst}
use Rattle.std.proofs.lemmas.List.Elements.{All-pop}
use Rattle.fx_pool.specs.Weights.{plus, weigh}
use Rattle.fx_tile.specs.declared.share.TileSeat.{TileSeat}
use Rattle.fx_tile.specs.Moments.{IsFree, seat_weight}
use Rattle.fx_tile.specs.Seats.{AreAll}
use Rattle.fx_tile.proofs.SeatLemmas.{joined, joined_weight}
use Rattle.fx_tile.proofs.share.Shared.join.Goals as goal

pub loop-seat-preserved : goal.loop-seat-preserved
loop-seat-preserved g c =
    let shared = c.args.self.now in
    let first = c.loop-seat.first in
    let new = c.join_one.new.first in
    let old = c.loop-seat.seats.items in
    let rest = c.pop.new.self.items in
    let seat = c.in-Some.seat in
    let items : old ≡ rest ++ seat ∷ [] = c.in-Some.ensures.items in
    let free = All-pop (IsFree shared) old rest (Some seat) items c.loop-seat.invariant.all.free in
    record {
      all = joined shared first new rest seat (subst (AreAll shared first) items c.loop-seat.invariant.all) c.join_one.ensures.idle free.0;
      made =
          joined_weight shared first new rest seat c.join_one.ensures.made
          ∙ ap (λ (xs : List (TileSeat _)). plus (seat_weight first) (weigh seat_weight xs)) (sym items)
          ∙ c.loop-seat.invariant.made;
    }
