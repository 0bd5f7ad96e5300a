use Rattle.std.proofs.Common.{◌≡◌, ◌≤◌, ◌+◌, length, All}
use Rattle.std.specs.Vec.{vec_capacity}
use Rattle.fx_life.specs.Posts.{handed, ArePlaced, IsStarted}
use Rattle.fx_life.proofs.life.start_each.Given as goal

abbrev pub invariant-loop-effect : goal.invariant-loop-effect
invariant-loop-effect g l =
    let number = g.E.Catalogue.number_of in
    record {
      room : length l.running.items + length l.effects.items ≤ vec_capacity l.running;
      back : length l.running.items + length l.effects.items ≤ vec_capacity l.effects;
      handed : handed l.effects.items l.running.items ≡ l.fn.effects.items;
      placed : ArePlaced number l.running.items l.places.items;
      started : All (IsStarted number l.uses l.first l.last) l.running.items;
      places : length l.places.items ≡ 64;
    }

abbrev pub decreases-loop-effect : goal.decreases-loop-effect
decreases-loop-effect g l = goal.left-loop-effect g l
