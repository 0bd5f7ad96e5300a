use Rattle.std.proofs.Common.{◌≡◌, ◌≤◌, ◌*◌, ap, sym, subst, rules, arith}
use Rattle.std.proofs.Math.Nat.{mul-le-mul_right}
use Rattle.std.proofs.lemmas.Int.{ints}
use Rattle.fx_base.specs.Rect.{rows}
use Rattle.fx_image.specs.Stored.{Stored}
use Rattle.fx_scene.specs.Scenes.{graph_shown, images_in}
use Rattle.fx_scene.specs.Windows.{IsWindowOf}
use Rattle.fx_scene.proofs.SiteLemmas.{is_effect, may_render}
use Rattle.fx_life.specs.Posts.{used_by}
use Rattle.fx_life.proofs.LifeLemmas.{may_play}
use Rattle.fx_eval.proofs.EffectLemmas.{has_gate, has_instance}
use Rattle.fx_eval.proofs.WholeLemmas.{filled_window}
use Rattle.fx_eval.proofs.window.made.Goals as goal

pub new-requires-clause-small : goal.new-requires-clause-small
new-requires-clause-small g c =
    let bytes = c.row_bytes_of-row_bytes.result in
    let many : rows c.args.region * bytes ≤ 4096 * bytes = mul-le-mul_right bytes c.requires.region.high in
    let small : bytes ≤ 32768 = c.row_bytes_of-row_bytes.ensures.small in
    omega (arith, many, small)

pub render_image-requires-clause-frame : goal.render_image-requires-clause-frame
render_image-requires-clause-frame g c =
    let low = c.requires.asked.near.low in let high = c.requires.asked.near.high in
    (omega (arith, ints), omega (arith, ints))

pub render_image-requires-clause-gates : goal.render_image-requires-clause-gates
render_image-requires-clause-gates g c =
    let asked = c.requires.asked in
    has_gate (graph_shown c.args.setup.now.graph.now) c.args.setup.now.gates.now.gates c.requires.setup.gates c.args.node.now asked.there

pub render_image-requires-clause-small : goal.render_image-requires-clause-small
render_image-requires-clause-small g c =
    let setup = c.args.setup.now in
    let asked = c.requires.asked in
    let few = (is_effect g.E.ImageEffect.meaning (graph_shown setup.graph.now) (images_in setup.store.now) c.requires.setup.nodes c.args.node.now asked.there).few in
    omega (arith, few)

pub render_image-requires-clause-may : goal.render_image-requires-clause-may
render_image-requires-clause-may g c =
    let setup = c.args.setup.now in
    let node = c.args.node.now in
    let graph = setup.graph.now in
    let shown = graph_shown graph in
    let depth : c.in_ok-image.image.depth ≡ node.depth = search rules in
    let samples : c.in_ok-image.image.components ≡ node.components = search rules in
    let m = g.E.ImageEffect.meaning in
    let at = c.requires.asked.there in
    rw (depth, samples) (may_play g.E.Catalogue.number_of m shown setup.life.now c.requires.setup.life node.place at.node
    (record { effect = node.effect.now; context = node.context }) at.there (ap used_by at.does) c.args.values.now c.args.inputs.now node.depth node.components
    (may_render m shown (graph.depth, graph.components) graph.kept (images_in setup.store.now) c.requires.setup.nodes node at
    c.args.values.now c.args.inputs.now c.requires.asked.values c.requires.asked.depth c.requires.asked.components))

pub returns-clause-window : goal.returns-clause-window
returns-clause-window g c =
    let setup = c.args.setup.now in
    let node = c.args.node.now in
    let plays = has_instance (graph_shown setup.graph.now) g.E.Catalogue.number_of setup.life.now c.requires.setup.life node c.requires.asked.there in
    let is : c.in_ok-new.field-0.value ≡ c.render_image.new.image = search rules in
    subst (λ (t : Stored). IsWindowOf (g.E.ImageEffect.meaning node.effect.now) c.args.values.now c.args.inputs.now node.depth node.components c.args.region t) (sym is)
    (filled_window c.in_ok-image.image c.render_image.new.image (g.E.ImageEffect.meaning node.effect.now) c.args.values.now c.args.inputs.now node.depth node.components c.args.region
    c.in_ok-image.ensures.rect c.in_ok-image.ensures.depth c.in_ok-image.ensures.components (c.in_ok-render_image.ensures.filled node.effect.now plays))
