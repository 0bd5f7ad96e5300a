use Rattle.std.proofs.Common.{◌≡◌}
use Rattle.fx_life.specs.Running.{AreLive}
use Rattle.fx_life.proofs.running.destroy_each.Given as goal

abbrev pub invariant-loop-instance : goal.invariant-loop-instance
invariant-loop-instance g l =
    record {
      effect : l.plugin.effect ≡ l.fn.plugin.effect;
      live : AreLive (g.E.Catalogue.number_of l.plugin.effect) l.plugin.live l.idle.items;
    }

abbrev pub decreases-loop-instance : goal.decreases-loop-instance
decreases-loop-instance g l = goal.left-loop-instance g l
