use Rattle.std.proofs.Common.{ℕ, subst, w64, length}
use Rattle.std.proofs.lemmas.Result.{IfOk-weaker}
use Rattle.std.proofs.lemmas.Int.{to_z-of_z}
use mir.Val.{SFits}
use Rattle.fx_scene.specs.Scenes.{graph_nodes, graph_shown, images_in, no_images}
use Rattle.fx_scene.specs.Nodes.{Nodes}
use Rattle.fx_scene.specs.Sites.{site_nodes}
use Rattle.fx_region.specs.Tables.{AreRegions}
use Rattle.fx_region.specs.declared.regions.Regions.{Regions}
use Rattle.fx_scene.proofs.SiteLemmas.{reads_same}
use Rattle.fx_region.proofs.TableLemmas.{reach_order, regions_made}
use Rattle.fx_region.proofs.regions.Regions.of.Goals as goal

pub fill-requires-clause-order : goal.fill-requires-clause-order
fill-requires-clause-order g c =
    let m = g.E.ImageEffect.meaning in
    let site = c.site_of-site.result in
    let graph = site.graph.now in
    let shown = graph_shown graph in
    let fits : SFits w64 c.args.frame = c.ranges.frame in
    let least = simp to_z-of_z at c.in_ok-node_frames.ensures.least in
    reach_order (graph_nodes m shown no_images) (site_nodes m site) graph.output (length graph.nodes.items) c.args.frame c.args.frame c.in_ok-node_frames.node_frames
    (λ n t k f. reads_same m shown (images_in site.store.now) no_images n t k f) least c.in_ok-node_frames.ensures.places

pub returns : goal.returns
returns g c =
    let m = g.E.ImageEffect.meaning in
    let site = c.site_of-site.result in
    let scene = c.args.scene.now in
    let graph = site.graph.now in
    let shown = graph_shown graph in
    let images = images_in site.store.now in
    let fits : SFits w64 c.args.frame = c.ranges.frame in
    let least = simp to_z-of_z at c.in_ok-node_frames.ensures.least in
    IfOk-weaker c.fill.result _ _ (λ (regions : Regions) are.
    subst (λ (nodes : Nodes). AreRegions nodes (length scene.graph.nodes) scene.graph.output c.args.frame regions) c.site_of-site.ensures.same
    (subst (λ (k : ℕ). AreRegions (site_nodes m site) k scene.graph.output c.args.frame regions) c.site_of-site.ensures.count
    (subst (λ (k : ℕ). AreRegions (site_nodes m site) (length graph.nodes.items) k c.args.frame regions) c.site_of-site.ensures.output
    (regions_made (graph_nodes m shown no_images) (site_nodes m site) (length graph.nodes.items) graph.output c.args.frame c.in_ok-node_frames.node_frames regions
    (λ n t k f. reads_same m shown no_images images n t k f) (λ n t k f. reads_same m shown images no_images n t k f) least c.in_ok-node_frames.ensures.places are))))
    c.fill.ensures
