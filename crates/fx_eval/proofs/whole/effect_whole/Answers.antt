use Rattle.std.proofs.Common.{rules, ◌∙◌, ap, sym, subst, w64, ℤ, List, map, arith}
use Rattle.std.proofs.lemmas.Int.{to_z-of_z, ints}
use Rattle.std.specs.Arc.{arc_value}
use mir.Val.{SFits}
use Rattle.fx_base.specs.Bounds.{Bounds}
use Rattle.fx_base.specs.Rect.{IsFrame}
use Rattle.fx_effect.specs.Asked.{AreRegions, IsWindow}
use Rattle.fx_effect.specs.Shape.{IsLawfulIn}
use Rattle.fx_effect.specs.declared.values.Values.{Values}
use Rattle.fx_graph.specs.Kept.{use_values}
use Rattle.fx_scene.specs.Frames.{items_of}
use Rattle.fx_scene.specs.Nodes.{Effect}
use Rattle.fx_scene.specs.Reach.{IsNearFrame}
use Rattle.fx_scene.specs.Scenes.{graph_shown, images_in}
use Rattle.fx_scene.proofs.Outside.{area_window, clip_regions}
use Rattle.fx_scene.specs.Sites.{AreReads, effect_at, seen_in}
use Rattle.fx_eval.specs.Setups.{setup_nodes}
use Rattle.fx_eval.specs.Wholes.{IsReady}
use Rattle.fx_eval.specs.Filled.{AreWindows}
use Rattle.fx_scene.proofs.SiteLemmas.{are_reads, effect_is, has_names, is_effect, is_use, sees}
use Rattle.fx_eval.proofs.FlightLemmas.{drops_none, on_err}
use Rattle.fx_eval.proofs.RenderLemmas.{effect_renders}
use Rattle.fx_eval.proofs.WholeLemmas.{effect_area, windows_whole}
use Rattle.fx_eval.proofs.whole.effect_whole.Goals as goal

pub frames_read-requires-clause-names : goal.frames_read-requires-clause-names
frames_read-requires-clause-names g c =
    let graph = c.args.setup.now.graph.now in
    let fits : SFits w64 c.args.frame = c.ranges.frame in
    let values = simp to_z-of_z at c.in_ok-values.ensures in
    has_names g.E.ImageEffect.meaning (graph_shown graph) (graph.depth, graph.components) graph.kept graph.extent c.args.node.now c.requires.there c.args.frame c.in_ok-values.values values

pub frames_read-requires-clause-frame : goal.frames_read-requires-clause-frame
frames_read-requires-clause-frame g c =
    let fits : SFits w64 c.args.frame = c.ranges.frame in
    let values = simp to_z-of_z at c.in_ok-values.ensures in
    let low = c.requires.near.low in let high = c.requires.near.high in
    subst IsFrame (sym (ap (λ (v : Values). v.frame) values)) (omega (arith, ints), omega (arith, ints))

pub areas_of-requires-clause-ready : goal.areas_of-requires-clause-ready
areas_of-requires-clause-ready g c =
    let fits : SFits w64 c.args.frame = c.ranges.frame in
    let o = effect_at g.E.ImageEffect.meaning c.args.setup.now.graph.now.project c.args.node.now in
    subst (λ (t : ℤ). IsReady (Effect o) t c.args.made.now) (sym (to_z-of_z w64 _ fits)) c.requires.ready

pub areas_of-requires-clause-reads : goal.areas_of-requires-clause-reads
areas_of-requires-clause-reads g c =
    let graph = c.args.setup.now.graph.now in
    let node = c.args.node.now in
    let m = g.E.ImageEffect.meaning in
    let fits : SFits w64 c.args.frame = c.ranges.frame in
    let values = simp to_z-of_z at c.in_ok-values.ensures in
    subst (λ (t : ℤ). AreReads (effect_at m graph.project node) t c.as_slice-frames.result.now) (sym (to_z-of_z w64 _ fits))
    (are_reads m (graph_shown graph) (graph.depth, graph.components) graph.kept node c.requires.there c.args.frame c.in_ok-values.values c.as_slice-frames.result.now values
    (ap (map (items_of {A = ℤ})) c.as_slice-frames.ensures.value ∙ c.in_ok-reads.ensures))

pub region_of_definition-requires-clause-lawful : goal.region_of_definition-requires-clause-lawful
region_of_definition-requires-clause-lawful g c =
    let setup = c.args.setup.now in
    let node = c.args.node.now in
    let m = g.E.ImageEffect.meaning in
    let fits : SFits w64 c.args.frame = c.ranges.frame in
    let values = simp to_z-of_z at c.in_ok-values.ensures in
    let i = is_effect m (graph_shown setup.graph.now) (images_in setup.store.now) c.requires.setup.nodes node c.requires.there in
    subst (λ (v : Values). IsLawfulIn (m node.effect.now).shape node.context v) (sym values) (i.lawful c.args.frame)

pub region_of_definition-requires-clause-optional : goal.region_of_definition-requires-clause-optional
region_of_definition-requires-clause-optional g c =
    let graph = c.args.setup.now.graph.now in
    (is_use g.E.ImageEffect.meaning (graph_shown graph) (graph.depth, graph.components) graph.kept c.args.node.now c.requires.there).optional_are

pub region_of_definition-requires-clause-regions : goal.region_of_definition-requires-clause-regions
region_of_definition-requires-clause-regions g c =
    let setup = c.args.setup.now in
    let node = c.args.node.now in
    let m = g.E.ImageEffect.meaning in
    let nodes = setup_nodes m setup in
    let o = effect_at m setup.graph.now.project node in
    let fits : SFits w64 c.args.frame = c.ranges.frame in
    let values = simp to_z-of_z at c.in_ok-values.ensures in
    let areas = simp to_z-of_z at (c.in_ok-areas.ensures nodes c.requires.whole) in
    let i = is_effect m (graph_shown setup.graph.now) (images_in setup.store.now) c.requires.setup.nodes node c.requires.there in
    subst (λ (v : Values). AreRegions v c.as_slice.result.now) (sym values)
    (subst (λ (rs : List Bounds). AreRegions (o.values c.args.frame) rs) (sym (c.as_slice.ensures.value ∙ areas)) (clip_regions nodes c.requires.setup.nodes node.place o i c.args.frame))

pub inputs_of-requires-clause-ready : goal.inputs_of-requires-clause-ready
inputs_of-requires-clause-ready g c =
    let fits : SFits w64 c.args.frame = c.ranges.frame in
    let o = effect_at g.E.ImageEffect.meaning c.args.setup.now.graph.now.project c.args.node.now in
    subst (λ (t : ℤ). IsReady (Effect o) t c.args.made.now) (sym (to_z-of_z w64 _ fits)) c.requires.ready

pub inputs_of-requires-clause-reads : goal.inputs_of-requires-clause-reads
inputs_of-requires-clause-reads g c =
    let graph = c.args.setup.now.graph.now in
    let node = c.args.node.now in
    let m = g.E.ImageEffect.meaning in
    let fits : SFits w64 c.args.frame = c.ranges.frame in
    let values = simp to_z-of_z at c.in_ok-values.ensures in
    subst (λ (t : ℤ). AreReads (effect_at m graph.project node) t c.as_slice-frames.result.now) (sym (to_z-of_z w64 _ fits))
    (are_reads m (graph_shown graph) (graph.depth, graph.components) graph.kept node c.requires.there c.args.frame c.in_ok-values.values c.as_slice-frames.result.now values
    (ap (map (items_of {A = ℤ})) c.as_slice-frames.ensures.value ∙ c.in_ok-reads.ensures))

pub images_of-requires-clause-asked : goal.images_of-requires-clause-asked
images_of-requires-clause-asked g c =
    let node = c.args.node.now in
    let project = c.args.setup.now.graph.now.project in
    let fits : SFits w64 c.args.frame = c.ranges.frame in
    let values = simp to_z-of_z at c.in_ok-values.ensures in
    record {
      there = c.requires.there;
      near = subst (λ (t : ℤ). IsNearFrame c.args.node.now.place t) (sym (ap (λ (v : Values). v.frame) values)) c.requires.near;
      values = values ∙ ap (λ (t : ℤ). use_values project t node.clips.now node.params.now) (sym (ap (λ (v : Values). v.frame) values));
      depth = search rules;
      components = search rules;
    }

pub images_of-requires-clause-area : goal.images_of-requires-clause-area
images_of-requires-clause-area g c =
    let setup = c.args.setup.now in
    let node = c.args.node.now in
    let m = g.E.ImageEffect.meaning in
    let nodes = setup_nodes m setup in
    let ok = c.requires.setup.nodes in
    let o = effect_at m setup.graph.now.project node in
    let fits : SFits w64 c.args.frame = c.ranges.frame in
    let values = simp to_z-of_z at c.in_ok-values.ensures in
    let areas = simp to_z-of_z at (c.in_ok-areas.ensures nodes c.requires.whole) in
    let stands = effect_is m (graph_shown setup.graph.now) (images_in setup.store.now) node c.requires.there in
    let i = is_effect m (graph_shown setup.graph.now) (images_in setup.store.now) ok node c.requires.there in
    let is = c.in_ok-area.ensures ∙ ap (λ (v : Values). o.meaning.rod o.context v c.as_slice.result.now) values
    ∙ ap (o.meaning.rod o.context (o.values c.args.frame)) (c.as_slice.ensures.value ∙ areas) ∙ effect_area nodes ok node.place o stands c.args.frame in
    subst IsWindow (sym is) (area_window nodes ok node.place c.args.frame i.few)

pub returns-clause-whole : goal.returns-clause-whole
returns-clause-whole g c =
    let setup = c.args.setup.now in
    let graph = setup.graph.now in
    let node = c.args.node.now in
    let m = g.E.ImageEffect.meaning in
    let nodes = setup_nodes m setup in
    let ok = c.requires.setup.nodes in
    let o = effect_at m graph.project node in
    let fits : SFits w64 c.args.frame = c.ranges.frame in
    let values = simp to_z-of_z at c.in_ok-values.ensures in
    let areas = simp to_z-of_z at (c.in_ok-areas.ensures nodes c.requires.whole) in
    let stands = effect_is m (graph_shown graph) (images_in setup.store.now) node c.requires.there in
    let is = c.in_ok-area.ensures ∙ ap (λ (v : Values). o.meaning.rod o.context v c.as_slice.result.now) values
    ∙ ap (o.meaning.rod o.context (o.values c.args.frame)) (c.as_slice.ensures.value ∙ areas) ∙ effect_area nodes ok node.place o stands c.args.frame in
    let adds = simp to_z-of_z at c.in_ok-inputs.ensures in
    let windows = subst (λ (v : Values). AreWindows (m node.effect.now) v c.in_ok-inputs.inputs node.depth node.components c.in_ok-area.area (map arc_value c.in_ok-images.images.items)) values c.in_ok-images.ensures.windows in
    windows_whole nodes ok node.place o stands c.args.frame (map (seen_in node.components) node.masks.now) c.in_ok-inputs.inputs _ adds
    (sees m (graph_shown graph) (graph.depth, graph.components) graph.kept node c.requires.there) is windows

pub returns-clause-lands : goal.returns-clause-lands
returns-clause-lands g c =
    let setup = c.args.setup.now in
    let graph = setup.graph.now in
    let node = c.args.node.now in
    let m = g.E.ImageEffect.meaning in
    let nodes = setup_nodes m setup in
    let ok = c.requires.setup.nodes in
    let o = effect_at m graph.project node in
    let fits : SFits w64 c.args.frame = c.ranges.frame in
    let values = simp to_z-of_z at c.in_ok-values.ensures in
    let areas = simp to_z-of_z at (c.in_ok-areas.ensures nodes c.requires.whole) in
    let stands = effect_is m (graph_shown graph) (images_in setup.store.now) node c.requires.there in
    let is = c.in_ok-area.ensures ∙ ap (λ (v : Values). o.meaning.rod o.context v c.as_slice.result.now) values
    ∙ ap (o.meaning.rod o.context (o.values c.args.frame)) (c.as_slice.ensures.value ∙ areas) ∙ effect_area nodes ok node.place o stands c.args.frame in
    effect_renders nodes node.place c.args.frame o c.in_ok-area.area c.args.core.now c.images_of.new.core stands is c.in_ok-images.ensures.lands

pub returns-in_err-values-clause-drops : goal.returns-in_err-values-clause-drops
returns-in_err-values-clause-drops g c = on_err c.from_residual.result (drops_none c.args.core.now)

pub returns-in_err-reads-clause-drops : goal.returns-in_err-reads-clause-drops
returns-in_err-reads-clause-drops g c = on_err c.from_residual-in_err-reads.result (drops_none c.args.core.now)

pub returns-in_err-areas-clause-drops : goal.returns-in_err-areas-clause-drops
returns-in_err-areas-clause-drops g c = on_err c.from_residual-in_err-areas.result (drops_none c.args.core.now)

pub returns-in_err-area-clause-drops : goal.returns-in_err-area-clause-drops
returns-in_err-area-clause-drops g c = on_err c.from_residual-in_err-area.result (drops_none c.args.core.now)

pub returns-in_err-inputs-clause-drops : goal.returns-in_err-inputs-clause-drops
returns-in_err-inputs-clause-drops g c = on_err c.from_residual-in_err-inputs.result (drops_none c.args.core.now)
