use Rattle.std.proofs.Common.{◌≡◌, ◌<◌, ◌++◌, [], ◌∷◌, length, Some, rules, refl, subst}
use Rattle.std.specs.Prelude.{slice_get}
use Rattle.std.proofs.lemmas.Option.{slice_get_read}
use Rattle.fx_life.specs.Posts.{ArePosted}
use Rattle.fx_life.proofs.PostLemmas.{PostedNext, posted_more, none_posted}
use Rattle.fx_life.proofs.posts.posted.Goals as goal

pub loop-k-init : goal.loop-k-init
loop-k-init g c =
    record {
      lists = c.in_ok-uses.ensures.lists;
      posted = rw c.new-posts.ensures.items (none_posted g.E.Catalogue.number_of c.args.nodes.now
          c.in_ok-uses.uses.items c.in_ok-uses.ensures.none_yet);
    }

pub loop-k-preserved : goal.loop-k-preserved
loop-k-preserved g c =
    let number = g.E.Catalogue.number_of in
    let nodes = c.args.nodes.now in
    let k = c.loop-k.k in
    let uses = c.loop-k.uses.items in
    let after = c.post_of.new.uses.items in
    let node = c.index-nodes-k.result in
    let post = c.in_ok-post.post in
    let low : k < length nodes = search rules in
    let there : slice_get nodes k ≡ Some node =
    slice_get_read nodes (length nodes) k node refl low c.index-nodes-k.is in
    let next : PostedNext number k uses after node post =
    record { adds = c.in_ok-post.ensures.added; stands = c.in_ok-post.ensures.post } in
    let pushed : c.push.new.self.items ≡ c.loop-k.posts.items ++ post ∷ [] = c.in_ok-push.ensures.items in
    record {
      lists = c.post_of.ensures.lists;
      posted = rw pushed
          (posted_more number nodes k c.loop-k.posts.items uses after node post there c.loop-k.invariant.posted next);
    }

pub returns-clause-posts : goal.returns-clause-posts
returns-clause-posts g c =
    let nodes = c.args.nodes.now in
    let all : c.loop-k.k ≡ length nodes = search rules in
    subst (λ n. ArePosted g.E.Catalogue.number_of nodes n c.loop-k.posts.items c.loop-k.uses.items) all
    c.loop-k.invariant.posted
