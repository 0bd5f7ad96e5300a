use Rattle.std.proofs.Common.{◌≡◌, subst, ap, rules, arith, length}
use Rattle.std.proofs.lemmas.Int.{ints}
use Rattle.std.proofs.lemmas.List.{length-map}
use Rattle.fx_graph.specs.Shown.{GraphShown, shown}
use Rattle.fx_scene.specs.Nodes.{AreNodes}
use Rattle.fx_scene.specs.Scenes.{graph_nodes, graph_shown, images_in}
use Rattle.fx_life.specs.Posts.{HasLife, used_by}
use Rattle.fx_life.proofs.LifeLemmas.{may_play}
use Rattle.fx_scene.proofs.SiteLemmas.{may_render, place_below}
use Rattle.fx_tile.proofs.RenderLemmas.{filled_window, has_instance}
use Rattle.fx_tile.proofs.render.window_of.Goals as goal

pub render_image-requires-clause-gates : goal.render_image-requires-clause-gates
render_image-requires-clause-gates g c =
    let of = c.requires.setup in
    let low = place_below (graph_shown c.args.setup.now.graph.now) c.args.node.now c.requires.asked.there in
    let same = ap (λ (h : GraphShown _). length h.nodes) of.graph in
    let many = of.gates in
    omega (arith, low, same, many)

pub render_image-requires-clause-small : goal.render_image-requires-clause-small
render_image-requires-clause-small g c =
    let graph = c.args.setup.now.graph.now in
    let low = place_below (graph_shown graph) c.args.node.now c.requires.asked.there in
    let few = graph.rendered.few in
    let long = length-map graph.nodes.items shown in
    omega (arith, low, few, long)

pub render_image-requires-clause-frame : goal.render_image-requires-clause-frame
render_image-requires-clause-frame g c =
    let low = c.requires.asked.near.low in let high = c.requires.asked.near.high in
    (omega (arith, ints), omega (arith, ints))

pub render_image-requires-clause-may : goal.render_image-requires-clause-may
render_image-requires-clause-may g c =
    let setup = c.args.setup.now in
    let node = c.args.node.now in
    let graph = setup.graph.now in
    let shown = graph_shown graph in
    let of = c.requires.setup in
    let m = g.E.ImageEffect.meaning in
    let depth : c.in_ok-image.image.depth ≡ node.depth = search rules in
    let samples : c.in_ok-image.image.components ≡ node.components = search rules in
    let life = subst (λ (h : GraphShown _). HasLife g.E.Catalogue.number_of h setup.life.now) of.graph of.life in
    let nodes = subst (λ (h : GraphShown _). AreNodes (graph_nodes m h (images_in setup.scene.now.store))) of.graph of.nodes in
    let at = c.requires.asked.there in
    rw (depth, samples) (may_play g.E.Catalogue.number_of m shown setup.life.now life node.place at.node
    (record { effect = node.effect.now; context = node.context }) at.there (ap used_by at.does) c.args.values.now c.args.inputs.now node.depth node.components
    (may_render m shown (graph.depth, graph.components) graph.kept (images_in setup.scene.now.store) nodes node at
    c.args.values.now c.args.inputs.now c.requires.asked.values c.requires.asked.depth c.requires.asked.components))

pub returns-clause-window : goal.returns-clause-window
returns-clause-window g c =
    let setup = c.args.setup.now in
    let node = c.args.node.now in
    let of = c.requires.setup in
    let life = subst (λ (h : GraphShown _). HasLife g.E.Catalogue.number_of h setup.life.now) of.graph of.life in
    let plays = has_instance (graph_shown setup.graph.now) g.E.Catalogue.number_of setup.life.now life node c.requires.asked.there in
    filled_window c.in_ok-image.image c.render_image.new.image (g.E.ImageEffect.meaning node.effect.now) c.args.values.now c.args.inputs.now node.depth node.components c.args.region
    c.in_ok-image.ensures.rect c.in_ok-image.ensures.depth c.in_ok-image.ensures.components (c.in_ok-render_image.ensures.filled node.effect.now plays)
