use Rattle.std.proofs.Common.{◌≡◌, ◌<◌, length, rules, ap}
use Rattle.fx_graph.specs.Shown.{does_of}
use Rattle.fx_life.specs.Posts.{Used, used_by}
use Rattle.fx_life.proofs.PostLemmas.{uses_here, uses_grown, post_made}
use Rattle.fx_life.proofs.posts.post_of.Goals as goal

pub returns-clause-added : goal.returns-clause-added
returns-clause-added g c =
    let w : Used g.row.E.Denot = record { effect = c.in-Effect.effect; context = c.in-Effect.context } in
    let uses = c.args.uses.now.items in
    let i = c.number-plugin.result in
    let mine = c.index_mut-mine.result.now in
    let low : i < length uses = search rules in
    let used = ap (λ o. used_by (does_of o)) c.in-Effect.is in
    uses_grown g.E.Catalogue.number_of c.args.node w (used_by (does_of c.args.work.now)) i uses mine c.push.new.self
    used
    c.number-plugin.ensures.value low (uses_here uses i mine low c.index_mut-mine.ensures.value)
    c.in_ok-push.ensures.items

pub returns-clause-post : goal.returns-clause-post
returns-clause-post g c = λ v is.
    let w : Used g.row.E.Denot = record { effect = c.in-Effect.effect; context = c.in-Effect.context } in
    let uses = c.args.uses.now.items in
    let i = c.number-plugin.result in
    let mine = c.index_mut-mine.result.now in
    let low : i < length uses = search rules in
    let used = ap (λ o. used_by (does_of o)) c.in-Effect.is in
    let long : c.len-place.result ≡ length mine.items = search rules in
    post_made g.E.Catalogue.number_of c.args.node w v (used_by (does_of c.args.work.now)) i c.len-place.result uses
    mine used is
    c.number-plugin.ensures.value (uses_here uses i mine low c.index_mut-mine.ensures.value) long
