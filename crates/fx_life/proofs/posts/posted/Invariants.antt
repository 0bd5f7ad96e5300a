use Rattle.std.proofs.Common.{◌≡◌, length}
use Rattle.fx_life.specs.Posts.{ArePosted}
use Rattle.fx_life.proofs.posts.posted.Given as goal

abbrev pub invariant-loop-k : goal.invariant-loop-k
invariant-loop-k g l =
    record {
      lists : length l.uses.items ≡ 64;
      posted : ArePosted g.E.Catalogue.number_of l.nodes l.k l.posts.items l.uses.items;
    }
