use Rattle.std.proofs.Common.{◌≡◌, take}
use Rattle.fx_life.specs.Running.{AreUsed}
use Rattle.fx_life.proofs.running.describe_each.Given as goal

abbrev pub invariant-loop-one : goal.invariant-loop-one
invariant-loop-one g l =
    record {
      effect : l.plugin.effect ≡ l.fn.plugin.effect;
      live : l.plugin.live ≡ l.fn.plugin.live;
      contexts : AreUsed l.plugin.contexts (take l.one-index l.uses);
    }
