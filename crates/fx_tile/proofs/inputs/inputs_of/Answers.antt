use Rattle.std.proofs.Common.{◌≢◌, ◌<◌, List, length, map, sym, subst, ap, arith}
use Rattle.std.proofs.lemmas.List.{length-map}
use Rattle.fx_pixel.specs.declared.Components.{Components}
use Rattle.fx_region.specs.declared.ends.Need.{Need}
use Rattle.fx_region.specs.declared.ends.End.TheVariants.{Void}
use Rattle.fx_scene.specs.Sites.{scene_nodes, seen_in}
use Rattle.fx_tile.specs.Setups.{IsReady, IsTileOf}
use Rattle.fx_tile.proofs.PieceLemmas.{tiles_long, tile_at, inputs_more}
use Rattle.fx_tile.proofs.inputs.inputs_of.Goals as goal

pub bounds-tiles-i : goal.bounds-tiles-i
bounds-tiles-i g c =
    let long = tiles_long (IsTileOf (scene_nodes g.E.ImageEffect.meaning c.args.setup.now.scene.now)) c.args.needs.now c.args.tiles.now c.requires.tiles in
    omega (arith, long, c.loop-i-test.true, c.loop-i.invariant.all)

pub add_piece-requires-clause-tile : goal.add_piece-requires-clause-tile
add_piece-requires-clause-tile g c =
    tile_at (IsTileOf (scene_nodes g.E.ImageEffect.meaning c.args.setup.now.scene.now)) c.args.needs.now c.args.tiles.now c.loop-i.i c.index-needs-i.result c.index-tiles-i.result c.requires.tiles
    (omega (arith, c.loop-i-test.true, c.loop-i.invariant.all)) c.index-needs-i.is c.index-tiles-i.is

pub loop-i-preserved : goal.loop-i-preserved
loop-i-preserved g c =
    record {
      all = c.loop-i.invariant.all;
      are = inputs_more (scene_nodes g.E.ImageEffect.meaning c.args.setup.now.scene.now) c.args.node.now.depth (map (seen_in c.args.node.now.components) c.args.node.now.masks.now)
          c.args.needs.now c.loop-i.i c.index-needs-i.result c.loop-i.inputs c.add_piece.new.inputs (omega (arith, c.loop-i-test.true, c.loop-i.invariant.all)) c.index-needs-i.is
          c.loop-i.invariant.are c.in_ok-add_piece.ensures;
    }

pub add_piece-requires-clause-clip : goal.add_piece-requires-clause-clip
add_piece-requires-clause-clip g c =
    let node = c.args.node.now in
    let low : c.loop-i.i < length c.args.needs.now = omega (arith, c.loop-i-test.true, c.loop-i.invariant.all) in
    let few = subst (λ (need : Need). need.clip < length node.masks.now) (sym c.index-needs-i.is)
    (c.requires.clips c.loop-i.i c.index-needs-i.result low) in
    let seen = ap (λ (ks : List Components). length ks) c.loop-i.invariant.are.seen_is in
    let long = length-map node.masks.now (seen_in node.components) in
    omega (arith, few, seen, long)

pub add_piece-requires-clause-found : goal.add_piece-requires-clause-found
add_piece-requires-clause-found g c =
    let low : c.loop-i.i < length c.args.needs.now = omega (arith, c.loop-i-test.true, c.loop-i.invariant.all) in
    subst (λ (need : Need). need.end ≢ Void) (sym c.index-needs-i.is)
    (c.requires.found c.loop-i.i c.index-needs-i.result low)

pub add_piece-requires-clause-ready : goal.add_piece-requires-clause-ready
add_piece-requires-clause-ready g c =
    let low : c.loop-i.i < length c.args.needs.now = omega (arith, c.loop-i-test.true, c.loop-i.invariant.all) in
    subst (λ (need : Need). IsReady g.E.ImageEffect.meaning c.args.setup.now c.args.node.now.place need.end)
    (sym c.index-needs-i.is) (c.requires.ready c.loop-i.i c.index-needs-i.result low)
