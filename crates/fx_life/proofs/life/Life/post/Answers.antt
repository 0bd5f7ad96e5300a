-- What is read at the node's place is its post.
use Rattle.std.proofs.Common.{◌≡◌, ◌<◌, Some, length, arith, ap, sym, subst, ◌∙◌}
use Rattle.std.specs.Prelude.{slice_get}
use Rattle.std.proofs.lemmas.Option.{none-some, slice_get_within}
use Rattle.fx_life.specs.Posts.{Lives}
use Rattle.fx_life.proofs.LifeLemmas.{read_post}
use Rattle.fx_life.proofs.life.Life.post.Goals as goal

pub index-requires : goal.index-requires
index-requires g c =
    let posts = c.self.inside.posts in
    let there : slice_get posts.items c.args.node ≡ Some (Some c.requires.0) =
    subst (λ (l : Lives _). slice_get l.posts c.args.node ≡ Some (Some c.requires.0)) (sym c.self.view_is)
    c.requires.1 in
    let low : c.args.node < length posts.items =
    slice_get_within posts.items c.args.node (Some c.requires.0) there in
    omega (arith, low, posts.ok.0)

pub unreachable-requires : goal.unreachable-requires
unreachable-requires g c =
    let posts = c.self.inside.posts.items in
    let there : slice_get posts c.args.node ≡ Some (Some c.requires.0) =
    subst (λ (l : Lives _). slice_get l.posts c.args.node ≡ Some (Some c.requires.0)) (sym c.self.view_is)
    c.requires.1 in
    none-some c.requires.0
    (sym c.in-None.is ∙ read_post posts c.args.node c.index.result.now c.requires.0 there c.index.ensures)

pub returns : goal.returns
returns g c =
    let posts = c.self.inside.posts.items in
    let there : slice_get posts c.args.node ≡ Some (Some c.requires.0) =
    subst (λ (l : Lives _). slice_get l.posts c.args.node ≡ Some (Some c.requires.0)) (sym c.self.view_is)
    c.requires.1 in
    c.requires.1
    ∙ ap Some (sym (read_post posts c.args.node c.index.result.now c.requires.0 there c.index.ensures) ∙ c.in-Some.is)
