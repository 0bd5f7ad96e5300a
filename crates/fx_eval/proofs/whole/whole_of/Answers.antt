use Rattle.std.proofs.Common.{rules, ◌∙◌, ap, sym, subst, refl, w64, to_z, of_z, ℕ, ℤ}
use Rattle.std.proofs.lemmas.Int.{to_z-of_z}
use Rattle.std.proofs.lemmas.Result.{IfOk-weaker, on_ok_weaker}
use mir.Val.{SFits}
use Rattle.fx_scene.specs.Nodes.{Node}
use Rattle.fx_scene.specs.Reach.{IsNearFrame}
use Rattle.fx_scene.specs.Scenes.{graph_shown, images_in, shown_frame}
use Rattle.fx_scene.specs.Sites.{source_of}
use Rattle.fx_scene.proofs.SiteLemmas.{effect_in, shown_area, source_is}
use Rattle.fx_seq.specs.Held.{held}
use Rattle.fx_eval.specs.Flights.{after_renders}
use Rattle.fx_eval.specs.Renders.{renders_at}
use Rattle.fx_eval.specs.Setups.{setup_nodes}
use Rattle.fx_eval.specs.Wholes.{IsReady, IsWhole}
use Rattle.fx_eval.specs.declared.whole.Whole.{Whole}
use Rattle.fx_eval.proofs.RenderLemmas.{source_renders}
use Rattle.fx_eval.proofs.WholeLemmas.{source_whole}
use Rattle.fx_eval.proofs.whole.whole_of.Goals as goal

pub returns-in-Source-clause-whole : goal.returns-in-Source-clause-whole
returns-in-Source-clause-whole g c =
    let setup = c.args.setup.now in
    let m = g.E.ImageEffect.meaning in
    let at = c.args.node_frame in
    let e = c.in-Source.source in
    let s = source_of (images_in setup.store.now) at.node e in
    let stands = source_is m (graph_shown setup.graph.now) (images_in setup.store.now) at.node e c.in-Source.ensures in
    let w : Whole = record { area = c.source_area.result; images = c.new.result } in
    source_whole (setup_nodes m setup) c.requires.setup.nodes at.node at.frame s w stands
    (c.source_area.ensures ∙ shown_area (held setup.store.now at.node) s (shown_frame e.first e.last e.hold at.frame) refl) c.new.ensures.items

pub returns-in-Source-clause-lands : goal.returns-in-Source-clause-lands
returns-in-Source-clause-lands g c =
    let setup = c.args.setup.now in
    let m = g.E.ImageEffect.meaning in
    let at = c.args.node_frame in
    let e = c.in-Source.source in
    let s = source_of (images_in setup.store.now) at.node e in
    let stands = source_is m (graph_shown setup.graph.now) (images_in setup.store.now) at.node e c.in-Source.ensures in
    source_renders (setup_nodes m setup) at.node at.frame s c.args.core.now stands

pub effect_whole-requires-clause-near : goal.effect_whole-requires-clause-near
effect_whole-requires-clause-near g c =
    let fits : SFits w64 c.args.node_frame.frame = search rules in
    subst (λ (t : ℤ). IsNearFrame c.in-Effect.node.place t) (sym (to_z-of_z w64 _ fits))
    (subst (λ (n : ℕ). IsNearFrame n c.args.node_frame.frame) (sym c.in-Effect.ensures.0) c.requires.place.near)

pub effect_whole-requires-clause-ready : goal.effect_whole-requires-clause-ready
effect_whole-requires-clause-ready g c =
    let setup = c.args.setup.now in
    let m = g.E.ImageEffect.meaning in
    let made = c.args.made.now in
    let fits : SFits w64 c.args.node_frame.frame = search rules in
    let stands = effect_in m (graph_shown setup.graph.now) (images_in setup.store.now) c.args.node_frame.node c.in-Effect.node c.in-Effect.ensures.0 c.in-Effect.ensures.1 in
    subst (λ (node : Node). IsReady node (to_z w64 (of_z w64 c.args.node_frame.frame)) made) stands
    (subst (λ (t : ℤ). IsReady (setup_nodes m setup c.args.node_frame.node) t made) (sym (to_z-of_z w64 _ fits)) c.requires.ready)

pub returns-in-Effect-clause-whole : goal.returns-in-Effect-clause-whole
returns-in-Effect-clause-whole g c =
    let fits : SFits w64 c.args.node_frame.frame = search rules in
    let nodes = setup_nodes g.E.ImageEffect.meaning c.args.setup.now in
    let answered = simp to_z-of_z at c.effect_whole.ensures.whole in
    IfOk-weaker c.effect_whole.result _ _ (λ (w : Whole) is.
    subst (λ (n : ℕ). IsWhole nodes n c.args.node_frame.frame w) c.in-Effect.ensures.0 is) answered

pub returns-in-Effect-clause-lands : goal.returns-in-Effect-clause-lands
returns-in-Effect-clause-lands g c =
    let fits : SFits w64 c.args.node_frame.frame = search rules in
    let nodes = setup_nodes g.E.ImageEffect.meaning c.args.setup.now in
    let answered = simp to_z-of_z at c.effect_whole.ensures.lands in
    on_ok_weaker c.effect_whole.result (λ is.
    is ∙ ap (λ (n : ℕ). after_renders c.args.core.now (renders_at nodes n c.args.node_frame.frame)) c.in-Effect.ensures.0) answered
