use Rattle.std.proofs.Common.{◌∙◌, ap, sym, subst, map, w64, arith, ℤ}
use Rattle.std.proofs.lemmas.Int.{to_z-of_z, ints}
use mir.Val.{SFits}
use Rattle.fx_base.specs.Rect.{IsFrame}
use Rattle.fx_effect.specs.declared.values.Values.{Values}
use Rattle.fx_scene.specs.Frames.{items_of}
use Rattle.fx_scene.specs.Nodes.{Effect}
use Rattle.fx_scene.specs.Scenes.{graph_shown, images_in}
use Rattle.fx_scene.specs.Sites.{AreReads, effect_at}
use Rattle.fx_region.specs.Tables.{HasReads, IsInterest}
use Rattle.fx_region.proofs.DemandLemmas.{is_interest}
use Rattle.fx_scene.proofs.SiteLemmas.{few_clips, has_names, names_counted}
use Rattle.fx_region.proofs.demanding.effect_needs.Goals as goal

pub regions_of_interest-requires-clause-names : goal.regions_of_interest-requires-clause-names
regions_of_interest-requires-clause-names g c =
    let graph = c.args.site.now.graph.now in
    let fits : SFits w64 c.args.frame = c.ranges.frame in
    let values = c.requires.asked.0 in
    has_names g.E.ImageEffect.meaning (graph_shown graph) (graph.depth, graph.components) graph.kept graph.extent c.args.node.now c.requires.there c.args.frame c.args.asked.now.values values

pub regions_of_interest-requires-clause-frame : goal.regions_of_interest-requires-clause-frame
regions_of_interest-requires-clause-frame g c =
    let fits : SFits w64 c.args.frame = c.ranges.frame in
    let values = c.requires.asked.0 in
    let low = c.requires.near.low in let high = c.requires.near.high in
    subst (λ (v : Values). IsFrame v.frame) (sym values) (omega (arith, ints), omega (arith, ints))

pub needs_of_clips-requires-clause-few : goal.needs_of_clips-requires-clause-few
needs_of_clips-requires-clause-few g c =
    let site = c.args.site.now in
    let graph = site.graph.now in
    few_clips g.E.ImageEffect.meaning (graph_shown graph) (graph.depth, graph.components) graph.kept (images_in site.store.now) c.requires.nodes c.args.node.now c.requires.there

pub needs_of_clips-requires-clause-there : goal.needs_of_clips-requires-clause-there
needs_of_clips-requires-clause-there g c =
    let fits : SFits w64 c.args.frame = c.ranges.frame in
    let o = effect_at g.E.ImageEffect.meaning c.args.site.now.graph.now.project c.args.node.now in
    subst (λ (t : ℤ). HasReads c.args.regions.now (Effect o) t) (sym (to_z-of_z w64 _ fits)) c.requires.reads

pub needs_of_clips-requires-clause-interest : goal.needs_of_clips-requires-clause-interest
needs_of_clips-requires-clause-interest g c =
    let graph = c.args.site.now.graph.now in
    let node = c.args.node.now in
    let m = g.E.ImageEffect.meaning in
    let o = effect_at m graph.project node in
    let fits : SFits w64 c.args.frame = c.ranges.frame in
    let values = c.requires.asked.0 in
    subst (λ (t : ℤ). IsInterest o t c.args.region c.as_slice.result.now) (sym (to_z-of_z w64 _ fits))
    (is_interest o c.args.frame c.args.region node.names.now c.args.asked.now.values c.as_slice.result.now (c.as_slice.ensures.value ∙ c.in_ok-interest.ensures) values
    (names_counted m (graph_shown graph) (graph.depth, graph.components) graph.kept node c.requires.there))

pub needs_of_clips-requires-clause-reads : goal.needs_of_clips-requires-clause-reads
needs_of_clips-requires-clause-reads g c =
    let o = effect_at g.E.ImageEffect.meaning c.args.site.now.graph.now.project c.args.node.now in
    let fits : SFits w64 c.args.frame = c.ranges.frame in
    subst (λ (t : ℤ). AreReads o t c.as_slice-2.result.now) (sym (to_z-of_z w64 _ fits))
    (ap (map (items_of {A = ℤ})) c.as_slice-2.ensures.value ∙ c.requires.asked.1)

pub returns : goal.returns
returns g c =
    let fits : SFits w64 c.args.frame = c.ranges.frame in
    simp to_z-of_z at c.needs_of_clips.ensures
