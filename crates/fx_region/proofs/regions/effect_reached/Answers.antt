use Rattle.std.proofs.Common.{◌∙◌, ap, sym, subst, w64, ℤ, List, map}
use Rattle.std.proofs.lemmas.Int.{to_z-of_z}
use mir.Val.{SFits}
use Rattle.fx_base.specs.Bounds.{Bounds}
use Rattle.fx_effect.specs.Asked.{AreRegions}
use Rattle.fx_effect.specs.Shape.{IsLawfulIn}
use Rattle.fx_effect.specs.declared.values.Values.{Values}
use Rattle.fx_scene.specs.Frames.{items_of}
use Rattle.fx_scene.specs.Nodes.{Effect}
use Rattle.fx_scene.specs.Scenes.{graph_shown, images_in}
use Rattle.fx_scene.proofs.Outside.{clip_regions}
use Rattle.fx_scene.specs.Sites.{AreReads, effect_at, site_nodes}
use Rattle.fx_region.specs.Tables.{HasReads}
use Rattle.fx_scene.proofs.SiteLemmas.{are_reads, effect_is, has_names, is_effect, is_use}
use Rattle.fx_scene.proofs.ClipLemmas.{area_by}
use Rattle.fx_region.proofs.regions.effect_reached.Goals as goal

pub frames_read-requires-clause-names : goal.frames_read-requires-clause-names
frames_read-requires-clause-names g c =
    let graph = c.args.site.now.graph.now in
    let fits : SFits w64 c.args.frame = c.ranges.frame in
    let values = simp to_z-of_z at c.in_ok-values.ensures in
    has_names g.E.ImageEffect.meaning (graph_shown graph) (graph.depth, graph.components) graph.kept graph.extent c.args.node.now c.requires.there c.args.frame c.in_ok-values.values values

pub clip_areas-requires-clause-there : goal.clip_areas-requires-clause-there
clip_areas-requires-clause-there g c =
    let fits : SFits w64 c.args.frame = c.ranges.frame in
    let o = effect_at g.E.ImageEffect.meaning c.args.site.now.graph.now.project c.args.node.now in
    subst (λ (t : ℤ). HasReads c.args.regions.now (Effect o) t) (sym (to_z-of_z w64 _ fits)) c.requires.reads

pub clip_areas-requires-clause-reads : goal.clip_areas-requires-clause-reads
clip_areas-requires-clause-reads g c =
    let graph = c.args.site.now.graph.now in
    let node = c.args.node.now in
    let m = g.E.ImageEffect.meaning in
    let fits : SFits w64 c.args.frame = c.ranges.frame in
    let values = simp to_z-of_z at c.in_ok-values.ensures in
    subst (λ (t : ℤ). AreReads (effect_at m graph.project node) t c.as_slice.result.now) (sym (to_z-of_z w64 _ fits))
    (are_reads m (graph_shown graph) (graph.depth, graph.components) graph.kept node c.requires.there c.args.frame c.in_ok-values.values c.as_slice.result.now values
    (ap (map (items_of {A = ℤ})) c.as_slice.ensures.value ∙ c.in_ok-reads.ensures))

pub region_of_definition-requires-clause-lawful : goal.region_of_definition-requires-clause-lawful
region_of_definition-requires-clause-lawful g c =
    let site = c.args.site.now in
    let node = c.args.node.now in
    let m = g.E.ImageEffect.meaning in
    let fits : SFits w64 c.args.frame = c.ranges.frame in
    let values = simp to_z-of_z at c.in_ok-values.ensures in
    let i = is_effect m (graph_shown site.graph.now) (images_in site.store.now) c.requires.nodes node c.requires.there in
    subst (λ (v : Values). IsLawfulIn (m node.effect.now).shape node.context v) (sym values) (i.lawful c.args.frame)

pub region_of_definition-requires-clause-optional : goal.region_of_definition-requires-clause-optional
region_of_definition-requires-clause-optional g c =
    let graph = c.args.site.now.graph.now in
    (is_use g.E.ImageEffect.meaning (graph_shown graph) (graph.depth, graph.components) graph.kept c.args.node.now c.requires.there).optional_are

pub region_of_definition-requires-clause-regions : goal.region_of_definition-requires-clause-regions
region_of_definition-requires-clause-regions g c =
    let site = c.args.site.now in
    let node = c.args.node.now in
    let m = g.E.ImageEffect.meaning in
    let nodes = site_nodes m site in
    let o = effect_at m site.graph.now.project node in
    let fits : SFits w64 c.args.frame = c.ranges.frame in
    let values = simp to_z-of_z at c.in_ok-values.ensures in
    let areas = simp to_z-of_z at (c.in_ok-areas.ensures nodes c.requires.right) in
    let i = is_effect m (graph_shown site.graph.now) (images_in site.store.now) c.requires.nodes node c.requires.there in
    subst (λ (v : Values). AreRegions v c.as_slice-2.result.now) (sym values)
    (subst (λ (rs : List Bounds). AreRegions (o.values c.args.frame) rs) (sym (c.as_slice-2.ensures.value ∙ areas)) (clip_regions nodes c.requires.nodes node.place o i c.args.frame))

pub returns-clause-area : goal.returns-clause-area
returns-clause-area g c =
    let site = c.args.site.now in
    let node = c.args.node.now in
    let m = g.E.ImageEffect.meaning in
    let nodes = site_nodes m site in
    let o = effect_at m site.graph.now.project node in
    let fits : SFits w64 c.args.frame = c.ranges.frame in
    let values = simp to_z-of_z at c.in_ok-values.ensures in
    let areas = simp to_z-of_z at (c.in_ok-areas.ensures nodes c.requires.right) in
    let stands = effect_is m (graph_shown site.graph.now) (images_in site.store.now) node c.requires.there in
    c.in_ok-area.ensures
    ∙ ap (λ (v : Values). o.meaning.rod o.context v c.as_slice-2.result.now) values
    ∙ ap (o.meaning.rod o.context (o.values c.args.frame)) (c.as_slice-2.ensures.value ∙ areas)
    ∙ area_by nodes c.requires.nodes node.place (Effect o) stands c.args.frame

pub returns-clause-asked : goal.returns-clause-asked
returns-clause-asked g c =
    let graph = c.args.site.now.graph.now in
    let fits : SFits w64 c.args.frame = c.ranges.frame in
    let values = simp to_z-of_z at c.in_ok-values.ensures in (
      values,
      are_reads g.E.ImageEffect.meaning (graph_shown graph) (graph.depth, graph.components) graph.kept c.args.node.now c.requires.there c.args.frame c.in_ok-values.values c.in_ok-reads.reads.items values c.in_ok-reads.ensures,
    )
