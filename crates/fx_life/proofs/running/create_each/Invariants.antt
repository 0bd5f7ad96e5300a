use Rattle.std.proofs.Common.{◌≡◌, ◌≤◌, length, map, take}
use Rattle.std.specs.Vec.{vec_capacity}
use Rattle.fx_life.specs.Running.{AreLive, made_for}
use Rattle.fx_life.proofs.running.create_each.Given as goal

abbrev pub invariant-loop-one : goal.invariant-loop-one
invariant-loop-one g l =
    record {
      effect : l.plugin.effect ≡ l.fn.plugin.effect;
      contexts : l.plugin.contexts ≡ l.fn.plugin.contexts;
      live : AreLive (g.E.Catalogue.number_of l.plugin.effect) l.plugin.live l.idle.items;
      room : length l.idle.items ≤ vec_capacity l.idle;
      made : l.idle.items ≡ map (made_for (g.E.Catalogue.number_of l.fn.plugin.effect)) (take l.one-index l.uses);
    }
