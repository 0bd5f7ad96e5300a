use Rattle.std.proofs.Common.{◌≡◌, ◌<◌, ◌∙◌, sym, ap, subst, rules, map, w64, All, ℤ, ℕ}
use Rattle.std.proofs.lemmas.Int.{to_z-of_z}
use mir.Val.{SFits}
use Rattle.std.specs.Arc.{arc_value}
use Rattle.fx_image.specs.Stored.{Stored}
use Rattle.fx_effect.specs.declared.values.Values.{Values}
use Rattle.fx_graph.specs.Kept.{use_values}
use Rattle.fx_scene.specs.Right.{IsTile}
use Rattle.fx_scene.specs.Reach.{IsNearFrame}
use Rattle.fx_scene.specs.Scenes.{graph_shown}
use Rattle.fx_region.specs.declared.ends.Need.{Need}
use Rattle.fx_scene.specs.Sites.{effect_at, scene_nodes, seen_in}
use Rattle.fx_scene.specs.Windows.{IsWindowOf}
use Rattle.fx_scene.proofs.SiteLemmas.{masks_counted, sees}
use Rattle.fx_tile.proofs.RenderLemmas.{window_tile}
use Rattle.fx_tile.proofs.SetupLemmas.{effect_there, place_of}
use Rattle.fx_tile.proofs.render.effect_rendered.Goals as goal

pub inputs_of-requires-clause-clips : goal.inputs_of-requires-clause-clips
inputs_of-requires-clause-clips g c =
    let m = g.E.ImageEffect.meaning in
    let setup = c.args.setup.now in
    let graph = setup.graph.now in
    let node = c.args.node.now in
    let there = effect_there m g.E.Catalogue.number_of setup c.requires.setup node c.requires.there in
    let many = masks_counted m (graph_shown graph) (graph.depth, graph.components) graph.kept node c.requires.there in
    subst (λ (k : ℕ). All (λ (need : Need). need.clip < k) c.args.needs.now) (sym many)
    (c.requires.needs.clips (effect_at m graph.project node) there)

pub window_of-requires-clause-asked : goal.window_of-requires-clause-asked
window_of-requires-clause-asked g c =
    let fits : SFits w64 c.args.frame = c.ranges.frame in
    let m = g.E.ImageEffect.meaning in
    let setup = c.args.setup.now in
    let node = c.args.node.now in
    let values = simp to_z-of_z at c.in_ok-values.ensures in
    let v = c.in_ok-values.values in
    let framed : v.frame ≡ c.args.frame = ap (λ (w : Values). w.frame) values in
    record {
      there = c.requires.there;
      near = subst (IsNearFrame node.place) (sym framed) (place_of m g.E.Catalogue.number_of setup c.requires.setup node.place c.args.frame c.requires.renderable.reached).near;
      values = values ∙ ap (λ (t : ℤ). use_values setup.graph.now.project t node.clips.now node.params.now) (sym framed);
      depth = c.in_ok-inputs.ensures.depth_is;
      components = c.in_ok-inputs.ensures.seen_is;
    }

pub returns-clause-tile : goal.returns-clause-tile
returns-clause-tile g c =
    let fits : SFits w64 c.args.frame = c.ranges.frame in
    let m = g.E.ImageEffect.meaning in
    let setup = c.args.setup.now in
    let graph = setup.graph.now in
    let node = c.args.node.now in
    let nodes = scene_nodes m setup.scene.now in
    let o = effect_at m graph.project node in
    let there = effect_there m g.E.Catalogue.number_of setup c.requires.setup node c.requires.there in
    let values = simp to_z-of_z at c.in_ok-values.ensures in
    let window = subst (λ (v : Values). IsWindowOf (m node.effect.now) v c.in_ok-inputs.inputs node.depth node.components c.args.region c.in_ok-image.image) values c.in_ok-image.ensures.window in
    let tile = window_tile nodes c.requires.setup.nodes node.place o there c.args.frame c.args.region c.args.needs.now (map (seen_in node.components) node.masks.now) c.in_ok-inputs.inputs c.in_ok-image.image
    (c.requires.needs.shows o there) c.in_ok-inputs.ensures (λ clip low. sees m (graph_shown graph) (graph.depth, graph.components) graph.kept node c.requires.there clip low) window in
    let same : arc_value c.in_ok-new.field-0 ≡ c.in_ok-image.image = search rules in
    subst (λ (image : Stored). IsTile nodes node.place c.args.frame c.args.region image) (sym same) tile
