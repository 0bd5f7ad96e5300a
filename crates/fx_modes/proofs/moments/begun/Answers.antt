use Rattle.std.proofs.Common.{rules, ◌≡◌, ◌≢◌, ◌∙◌, List, map, ap, sym, subst, refl}
use Rattle.std.specs.List.{AllPairs, Contains}
use Rattle.fx_scene.specs.Scenes.{Shot, graph_shown}
use Rattle.fx_scene.specs.Takes.{edits_of}
use Rattle.fx_shipped.specs.declared.shipped.Shipped.{Shipped}
use Rattle.fx_shipped.specs.Shipped.{number_of}
use Rattle.fx_shipped.proofs.NumberLaws.{numbers_differ, number_among}
use Rattle.fx_life.specs.Posts.{HasLife}
use Rattle.fx_life.proofs.LifeLemmas.{started_life}
use Rattle.fx_words.specs.Ordered.{Ordered}
use Rattle.fx_modes.specs.Graphs.{Graph}
use Rattle.fx_modes.proofs.ScaledLemmas.{holds_none}
use Rattle.fx_modes.proofs.StartLemmas.{first_script, no_wholes, stands_first}
use Rattle.fx_modes.proofs.moments.begun.Goals as goal

pub start-requires-clause-numbers : goal.start-requires-clause-numbers
start-requires-clause-numbers c =
    subst (λ (es : List Shipped). AllPairs (λ a b. number_of a ≢ number_of b) es) (sym c.in_ok-all_effects.ensures) numbers_differ

pub start-requires-clause-among : goal.start-requires-clause-among
start-requires-clause-among c = λ k used at.
    subst (λ (es : List Shipped). Contains (map number_of es) (number_of used.effect)) (sym c.in_ok-all_effects.ensures) (number_among used.effect)

pub returns-clause-life : goal.returns-clause-life
returns-clause-life c =
    let nodes = ap (λ (s : Graph). s.nodes) c.graph.ensures.shown in
    let written : c.remember.new.self.script.written ≡ c.remember.new.self.graph = search rules in
    subst (λ (s : Graph). HasLife number_of s c.in_ok-life.life) (sym written)
    (started_life number_of c.graph.result.now.nodes.items c.args.first c.args.last c.remember.new.self.graph c.in_ok-life.life nodes
    c.in_ok-life.ensures.life)

pub returns-clause-making : goal.returns-clause-making
returns-clause-making c = λ p reel side cache.
    let is = c.in_ok-crew.ensures in
    let scene = c.remember.new.self in
    let takes = c.args.file.takes.list.items in
    let script : scene.script ≡ first_script (graph_shown c.args.file.graph) takes =
    ap (λ (s : Shot Shipped). s.script) c.remember.ensures
    ∙ ap (λ (s : Shot Shipped). record s.script { takes = edits_of takes }) c.new-scene.ensures.scene in
    let graph : scene.graph ≡ graph_shown c.args.file.graph =
    ap (λ (s : Shot Shipped). s.graph) c.remember.ensures ∙ ap (λ (s : Shot Shipped). s.graph) c.new-scene.ensures.scene in
    stands_first c.args.order.now.scale (graph_shown c.args.file.graph) takes c.args.first c.args.last c.requires.order p reel _ (ap (λ (o : Ordered). o.scale) c.order.view_is) script graph (search rules)
    refl refl refl refl refl c.in_ok-crew.crew refl is.crew (is.new.side ∙ sym side) (is.new.capacity ∙ sym cache) (λ none. no_wholes c.args.order.now scene c.in_ok-crew.crew is.new (sym cache ∙ none)) is.new.nothing c.none.ensures
    (holds_none p.reel.scale p.uses _ scene.store (search rules) (search rules) (search rules))
