use Rattle.std.proofs.Common.{rules, ◌∙◌, ap, sym, subst, refl, w64, to_z, of_z, ℕ, ℤ, None}
use Rattle.std.proofs.lemmas.Int.{to_z-of_z}
use Rattle.std.proofs.lemmas.Result.{IfOk-weaker}
use mir.Val.{SFits}
use Rattle.fx_seq.specs.Held.{held}
use Rattle.fx_scene.specs.Areas.{area}
use Rattle.fx_scene.specs.Nodes.{Node, Source}
use Rattle.fx_scene.specs.Reach.{IsNearFrame}
use Rattle.fx_scene.specs.Scenes.{graph_shown, images_in, shown_frame}
use Rattle.fx_scene.specs.Sites.{site_nodes, source_of}
use Rattle.fx_region.specs.Tables.{HasReads, IsAskedSo}
use Rattle.fx_region.specs.declared.regions.Reached.{Reached}
use Rattle.fx_scene.proofs.SiteLemmas.{effect_in, shown_area, source_is}
use Rattle.fx_scene.proofs.ClipLemmas.{area_by}
use Rattle.fx_region.proofs.regions.reached_at.Goals as goal

pub returns-in-Source-clause-area : goal.returns-in-Source-clause-area
returns-in-Source-clause-area g c =
    let site = c.args.site.now in
    let m = g.E.ImageEffect.meaning in
    let at = c.args.node_frame in
    let e = c.in-Source.source in
    let s = source_of (images_in site.store.now) at.node e in
    let stands = source_is m (graph_shown site.graph.now) (images_in site.store.now) at.node e c.in-Source.ensures in
    c.source_area.ensures ∙ shown_area (held site.store.now at.node) s (shown_frame e.first e.last e.hold at.frame) refl
    ∙ area_by (site_nodes m site) c.requires.nodes at.node (Source s) stands at.frame

pub returns-in-Source-clause-asked : goal.returns-in-Source-clause-asked
returns-in-Source-clause-asked g c =
    let site = c.args.site.now in
    let at = c.args.node_frame in
    let stands = source_is g.E.ImageEffect.meaning (graph_shown site.graph.now) (images_in site.store.now) at.node c.in-Source.source c.in-Source.ensures in
    subst (λ (node : Node). IsAskedSo node at.frame None) (sym stands) tt

pub effect_reached-requires-clause-near : goal.effect_reached-requires-clause-near
effect_reached-requires-clause-near g c =
    let fits : SFits w64 c.args.node_frame.frame = search rules in
    subst (λ (t : ℤ). IsNearFrame c.in-Effect.node.place t) (sym (to_z-of_z w64 _ fits))
    (subst (λ (n : ℕ). IsNearFrame n c.args.node_frame.frame) (sym c.in-Effect.ensures.0) c.requires.place.near)

pub effect_reached-requires-clause-reads : goal.effect_reached-requires-clause-reads
effect_reached-requires-clause-reads g c =
    let site = c.args.site.now in
    let m = g.E.ImageEffect.meaning in
    let regions = c.args.regions.now in
    let fits : SFits w64 c.args.node_frame.frame = search rules in
    let stands = effect_in m (graph_shown site.graph.now) (images_in site.store.now) c.args.node_frame.node c.in-Effect.node c.in-Effect.ensures.0 c.in-Effect.ensures.1 in
    subst (λ (node : Node). HasReads regions node (to_z w64 (of_z w64 c.args.node_frame.frame))) stands
    (subst (λ (t : ℤ). HasReads regions (site_nodes m site c.args.node_frame.node) t) (sym (to_z-of_z w64 _ fits)) c.requires.reads)

pub returns-in-Effect-clause-area : goal.returns-in-Effect-clause-area
returns-in-Effect-clause-area g c =
    let fits : SFits w64 c.args.node_frame.frame = search rules in
    let nodes = site_nodes g.E.ImageEffect.meaning c.args.site.now in
    let answered = simp to_z-of_z at c.effect_reached.ensures.area in
    IfOk-weaker c.effect_reached.result _ _ (λ (r : Reached) is.
    is ∙ ap (λ (n : ℕ). area nodes n c.args.node_frame.frame) c.in-Effect.ensures.0) answered

pub returns-in-Effect-clause-asked : goal.returns-in-Effect-clause-asked
returns-in-Effect-clause-asked g c =
    let site = c.args.site.now in
    let m = g.E.ImageEffect.meaning in
    let fits : SFits w64 c.args.node_frame.frame = search rules in
    let stands = effect_in m (graph_shown site.graph.now) (images_in site.store.now) c.args.node_frame.node c.in-Effect.node c.in-Effect.ensures.0 c.in-Effect.ensures.1 in
    let answered = simp to_z-of_z at c.effect_reached.ensures.asked in
    IfOk-weaker c.effect_reached.result _ _ (λ (r : Reached) is.
    subst (λ (node : Node). IsAskedSo node c.args.node_frame.frame r.asked) (sym stands) is) answered
