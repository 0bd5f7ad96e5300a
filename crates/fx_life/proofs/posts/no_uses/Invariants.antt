use Rattle.std.proofs.Common.{◌≡◌, ℕ, [], length}
use Rattle.fx_life.specs.Posts.{uses_at}
use Rattle.fx_life.proofs.posts.no_uses.Given as goal

abbrev pub invariant-loop : goal.invariant-loop
invariant-loop l =
    record {
      count : length l.uses.items ≡ l.counter;
      none_yet : (n : ℕ) → uses_at l.uses.items n ≡ [];
    }
