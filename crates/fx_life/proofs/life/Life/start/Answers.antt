use Rattle.std.proofs.Common.{◌≢◌, [], map, length, refl, ap, sym, subst, ◌∙◌, arith, AllPairs}
use Rattle.std.specs.List.{Contains}
use Rattle.std.proofs.lemmas.Result.{IfOk-from_err}
use Rattle.std.proofs.lemmas.List.Elements.{All-weaker}
use Rattle.fx_life.specs.Posts.{Lives, ArePosted, Serves, IsStarted, handed, uses_at}
use Rattle.fx_life.proofs.LifeLemmas.{serves, is_life}
use Rattle.fx_life.proofs.PostLemmas.{supported_in, all_supported}
use Rattle.fx_life.proofs.life.Life.start.Goals as goal

pub start_each-requires-clause-supported : goal.start_each-requires-clause-supported
start_each-requires-clause-supported g c =
    let number = g.E.Catalogue.number_of in
    let meaning = g.E.ImageEffect.meaning in
    let graph = c.args.graph.now in
    let nodes = graph.nodes.items in
    let posts = c.in_ok-posting.posting.posts.items in
    let are : ArePosted number nodes (length nodes) posts c.deref-2.result.now =
    rw (c.deref-2.ensures.value, ← c.deref.ensures.value) c.in_ok-posting.ensures.posts in
    all_supported number meaning nodes (length nodes) posts c.deref-2.result.now g.met.E.Catalogue.one_meaning
    (supported_in meaning (graph.depth, graph.components) nodes graph.kept) are

pub returns-in-Ok-clause-life : goal.returns-in-Ok-clause-life
returns-in-Ok-clause-life g c =
    let number = g.E.Catalogue.number_of in
    let nodes = c.args.graph.now.nodes.items in
    let runs = c.start_each.new.running.items in
    let posts = c.in_ok-posting.posting.posts.items in
    let uses = c.deref-2.result.now in
    let are : ArePosted number nodes (length nodes) posts uses =
    rw (c.deref-2.ensures.value, ← c.deref.ensures.value) c.in_ok-posting.ensures.posts in
    let life : Lives g.row.E.Denot = record { runs = runs; posts = posts; effects = handed [] runs } in
    is_life number nodes c.args.first c.args.last life uses are
    (λ k used at. subst (λ l. Contains (map number l) (number used.effect)) (sym c.in-Ok.ensures.effects)
    (c.requires.among k used at)) refl c.in-Ok.ensures.started

pub returns-in-Ok-clause-only : goal.returns-in-Ok-clause-only
returns-in-Ok-clause-only g c =
    let number = g.E.Catalogue.number_of in
    let nodes = c.args.graph.now.nodes.items in
    let posts = c.in_ok-posting.posting.posts.items in
    let uses = c.deref-2.result.now in
    let are : ArePosted number nodes (length nodes) posts uses =
    rw (c.deref-2.ensures.value, ← c.deref.ensures.value) c.in_ok-posting.ensures.posts in
    All-weaker (IsStarted number uses c.args.first c.args.last) (Serves number nodes)
    (λ run. serves number nodes (length nodes) c.args.first c.args.last posts uses run are)
    c.start_each.new.running.items
    c.in-Ok.ensures.started

pub start_each-requires-clause-apart : goal.start_each-requires-clause-apart
start_each-requires-clause-apart g c =
    λ n. subst (λ us. AllPairs (λ a b. a.node ≢ b.node) (uses_at us n)) (sym c.deref-2.ensures.value)
    (c.in_ok-posting.ensures.posts.apart n)

pub start_each-requires-clause-numbers : goal.start_each-requires-clause-numbers
start_each-requires-clause-numbers g c = c.requires.numbers

pub start_each-requires-clause-frames : goal.start_each-requires-clause-frames
start_each-requires-clause-frames g c = c.requires.frames

pub start_each-requires-clause-lists : goal.start_each-requires-clause-lists
start_each-requires-clause-lists g c = (
  ap length c.deref-2.ensures.value ∙ c.in_ok-posting.ensures.lists,
  sym c.in_ok-places.places.ok.0 ∙ c.in_ok-places.ensures.len,
)

pub start_each-requires-clause-none_yet : goal.start_each-requires-clause-none_yet
start_each-requires-clause-none_yet g c = c.new-running.ensures.items

pub finish_each-requires : goal.finish_each-requires
finish_each-requires g c = c.start_each.ensures.room

pub invariant_of-result : goal.invariant_of-result
invariant_of-result g c =
    (c.in-Ok.ensures.placed, c.in-Ok.ensures.all, omega (arith, c.start_each.ensures.room))

pub returns-in-Ok-clause-effects : goal.returns-in-Ok-clause-effects
returns-in-Ok-clause-effects g c = c.in-Ok.ensures.effects

pub returns-in_err-posting-clause-life : goal.returns-in_err-posting-clause-life
returns-in_err-posting-clause-life g c = IfOk-from_err _ _ c.from_residual.ensures.0

pub returns-in_err-places-clause-life : goal.returns-in_err-places-clause-life
returns-in_err-places-clause-life g c = IfOk-from_err _ _ c.from_residual-in_err-places.ensures.0

pub returns-in_err-posting-clause-only : goal.returns-in_err-posting-clause-only
returns-in_err-posting-clause-only g c = IfOk-from_err _ _ c.from_residual.ensures.0

pub returns-in_err-places-clause-only : goal.returns-in_err-places-clause-only
returns-in_err-places-clause-only g c = IfOk-from_err _ _ c.from_residual-in_err-places.ensures.0

pub returns-in_err-posting-clause-effects : goal.returns-in_err-posting-clause-effects
returns-in_err-posting-clause-effects g c = IfOk-from_err _ _ c.from_residual.ensures.0

pub returns-in_err-places-clause-effects : goal.returns-in_err-places-clause-effects
returns-in_err-places-clause-effects g c = IfOk-from_err _ _ c.from_residual-in_err-places.ensures.0
