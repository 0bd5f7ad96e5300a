use Rattle.std.proofs.Common.{◌∙◌, ap, sym, subst, map, w64, ℕ, ℤ, Some}
use Rattle.std.proofs.lemmas.Int.{to_z-of_z}
use Rattle.std.proofs.lemmas.Result.{IfOk-weaker}
use mir.Val.{SFits}
use Rattle.std.specs.declared.alloc.Global.{Global}
use Rattle.std.specs.declared.vec.Vec.{Vec}
use Rattle.fx_scene.specs.Areas.{area}
use Rattle.fx_scene.specs.Nodes.{Effect, Node}
use Rattle.fx_scene.specs.Reach.{IsNearFrame}
use Rattle.fx_scene.specs.Scenes.{graph_shown, images_in}
use Rattle.fx_region.specs.Ends.{end_of}
use Rattle.fx_region.specs.Needs.{need_shown, node_needs}
use Rattle.fx_scene.specs.Sites.{effect_at, site_nodes}
use Rattle.fx_region.specs.Tables.{HasReads, IsAskedSo}
use Rattle.fx_region.specs.declared.ends.Need.{Need}
use Rattle.fx_scene.proofs.SiteLemmas.{effect_in, source_is}
use Rattle.fx_region.proofs.TableLemmas.{asked_so, asked_some}
use Rattle.fx_region.proofs.demanding.needs_in.Goals as goal

pub effect_needs-requires-clause-near : goal.effect_needs-requires-clause-near
effect_needs-requires-clause-near g c =
    let fits : SFits w64 c.args.frame = c.ranges.frame in
    let near = (c.requires.table.places c.args.node c.args.frame c.requires.reached).near in
    subst (λ (t : ℤ). IsNearFrame c.in-Effect.used.place t) (sym (to_z-of_z w64 _ fits))
    (subst (λ (n : ℕ). IsNearFrame n c.args.frame) (sym c.in-Effect.ensures.0) near)

pub effect_needs-requires-clause-reads : goal.effect_needs-requires-clause-reads
effect_needs-requires-clause-reads g c =
    let site = c.args.site.now in
    let m = g.E.ImageEffect.meaning in
    let fits : SFits w64 c.args.frame = c.ranges.frame in
    let stands = effect_in m (graph_shown site.graph.now) (images_in site.store.now) c.args.node c.in-Effect.used c.in-Effect.ensures.0 c.in-Effect.ensures.1 in
    subst (λ (t : ℤ). HasReads c.args.regions.now (Effect (effect_at m site.graph.now.project c.in-Effect.used)) t) (sym (to_z-of_z w64 _ fits))
    (subst (λ (node : Node). HasReads c.args.regions.now node c.args.frame) stands (c.requires.table.reads c.args.node c.args.frame c.requires.reached))

pub of_effect-asked-requires : goal.of_effect-asked-requires
of_effect-asked-requires g c =
    let site = c.args.site.now in
    let m = g.E.ImageEffect.meaning in
    let nodes = site_nodes m site in
    let used = c.in-Effect.used in
    let stands = effect_in m (graph_shown site.graph.now) (images_in site.store.now) c.args.node used c.in-Effect.ensures.0 c.in-Effect.ensures.1 in
    let fits : SFits w64 c.args.frame = c.ranges.frame in
    let asked = simp to_z-of_z at (c.known.ensures.asked nodes c.requires.table.asked) in
    asked_some (nodes c.args.node) (effect_at m site.graph.now.project used) c.args.frame c.known.result.now.asked stands asked

pub effect_needs-requires-clause-asked : goal.effect_needs-requires-clause-asked
effect_needs-requires-clause-asked g c =
    let site = c.args.site.now in
    let m = g.E.ImageEffect.meaning in
    let nodes = site_nodes m site in
    let o = effect_at m site.graph.now.project c.in-Effect.used in
    let stands = effect_in m (graph_shown site.graph.now) (images_in site.store.now) c.args.node c.in-Effect.used c.in-Effect.ensures.0 c.in-Effect.ensures.1 in
    let fits : SFits w64 c.args.frame = c.ranges.frame in
    let asked = simp to_z-of_z at (c.known.ensures.asked nodes c.requires.table.asked) in
    subst (λ (t : ℤ). IsAskedSo (Effect o) t (Some c.of_effect-asked.result.now)) (sym (to_z-of_z w64 _ fits))
    (asked_so (nodes c.args.node) o c.args.frame c.known.result.now.asked _ stands asked c.of_effect-asked.ensures)

pub returns-in-Source : goal.returns-in-Source
returns-in-Source g c =
    let site = c.args.site.now in
    let m = g.E.ImageEffect.meaning in
    let nodes = site_nodes m site in
    let images = images_in site.store.now in
    let stands = source_is m (graph_shown site.graph.now) images c.args.node _ c.in-Source.ensures in
    ap (map need_shown) c.new.ensures.items
    ∙ ap (λ (q : Node). node_needs (end_of nodes) (area nodes) c.args.grid q c.args.frame c.args.region) (sym stands)

pub returns-in-Effect : goal.returns-in-Effect
returns-in-Effect g c =
    let site = c.args.site.now in
    let m = g.E.ImageEffect.meaning in
    let nodes = site_nodes m site in
    let fits : SFits w64 c.args.frame = c.ranges.frame in
    let stands = effect_in m (graph_shown site.graph.now) (images_in site.store.now) c.args.node c.in-Effect.used c.in-Effect.ensures.0 c.in-Effect.ensures.1 in
    let needed = simp to_z-of_z at c.effect_needs.ensures in
    IfOk-weaker c.effect_needs.result _ _ (λ (needs : Vec Need Global) are.
    are ∙ ap (λ (q : Node). node_needs (end_of nodes) (area nodes) c.args.grid q c.args.frame c.args.region) (sym stands)) needed
