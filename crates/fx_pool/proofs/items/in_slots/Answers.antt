use Rattle.std.proofs.Common.{rules, Some, Ok, ◌∙◌}
use Rattle.std.proofs.lemmas.Iterator.{items_from_collect, YieldsList-from_map}
use Rattle.std.proofs.lemmas.Iterator.Adapters.{YieldsList-from_vec}
use Rattle.std.proofs.lemmas.Iterator.Consumers.{YieldsList-at}
use Rattle.fx_pool.proofs.items.in_slots.Goals as goal

pub returns-in-Ok : goal.returns-in-Ok
returns-in-Ok g c = record {
  count = c.in-Ok.ensures.count ∙ c.len-count.ensures;
  items = c.in-Ok.ensures.items ∙ items_from_collect {E = Unit {0}} (Ok c.in_ok-slots.slots) c.in_ok-slots.ensures.ran
      (YieldsList-from_map _ (λ (x : g.row.I.Denot). Some x)
      (YieldsList-at c.map.ensures.source (YieldsList-from_vec c.args.items.items c.into_iter.ensures.rest (c.into_iter.ensures.len ∙ c.args.items.ok.0)))
      c.map.ensures.closure (λ x r q k. search rules));
  seat = c.in-Ok.ensures.seat;
}
