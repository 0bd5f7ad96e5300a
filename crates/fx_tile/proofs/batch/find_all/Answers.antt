use Rattle.std.proofs.Common.{◌≡◌, ℤ, ◌∙◌, sym, ap, subst, List, map, w64}
use Rattle.std.proofs.lemmas.Int.{to_z-of_z}
use mir.Val.{SFits}
use Rattle.fx_base.specs.Bounds.{Bounds, none}
use Rattle.fx_pool.specs.Weights.{plus, weigh}
use Rattle.fx_region.specs.Ends.{end_of}
use Rattle.fx_region.specs.Tables.{Has}
use Rattle.fx_scene.specs.Sites.{scene_nodes}
use Rattle.fx_tile.specs.declared.count.TileCount.{TileCount}
use Rattle.fx_tile.specs.Moments.{CountsTiles, count_of_all, count_weight, seat_weight}
use Rattle.fx_tile.proofs.CountLemmas.{counts_found}
use Rattle.fx_tile.proofs.FoundTileLemmas.{all_found, found_rects}
use Rattle.fx_tile.proofs.batch.find_all.Goals as goal

pub work-requires-clause-takes : goal.work-requires-clause-takes
work-requires-clause-takes g c = λ κs within k low.
    let fits : SFits w64 c.args.frame = c.ranges.frame in
    let setup = c.args.setup.now in
    record {
      setup = c.requires.tiles.setup_is;
      reached = subst (λ (t : ℤ). Has setup.regions.now setup.scene.now.graph.output t) (sym (to_z-of_z w64 _ fits)) c.requires.tiles.reached;
      below = low;
      tile = c.requires.tiles.each k none low;
    }

pub returns-in-Some-clause-tiles : goal.returns-in-Some-clause-tiles
returns-in-Some-clause-tiles g c =
    found_rects g.E.ImageEffect.meaning _ c.in_ok-seats.field-0.outs.items c.in_ok-seats.ensures.numbers c.in_ok-seats.ensures.right

pub returns-in-Some-clause-found : goal.returns-in-Some-clause-found
returns-in-Some-clause-found g c =
    let fits : SFits w64 c.args.frame = c.ranges.frame in
    simp to_z-of_z at (all_found g.E.ImageEffect.meaning _ c.in_ok-seats.field-0.outs.items c.in_ok-seats.ensures.right)

pub returns-in-Some-clause-count : goal.returns-in-Some-clause-count
returns-in-Some-clause-count g c =
    let m = g.E.ImageEffect.meaning in
    let setup = c.args.setup.now in
    let nodes = scene_nodes m setup.scene.now in
    let side = setup.shared.now.grid in
    let end = end_of nodes setup.scene.now.graph.output c.args.frame in
    let outs = c.in_ok-seats.field-0.outs.items in
    let sum : c.in-Some.count ≡ count_of_all outs = c.in-Some.ensures.sum ∙ ap count_of_all c.deref.ensures.value in
    subst (CountsTiles nodes side (map end c.args.tiles.now)) (sym sum)
    (subst (λ (ts : List Bounds). CountsTiles nodes side (map end ts) (count_of_all outs)) (returns-in-Some-clause-tiles g c)
    (counts_found m setup c.args.frame outs (returns-in-Some-clause-found g c)))

pub returns-in-Some-clause-rises : goal.returns-in-Some-clause-rises
returns-in-Some-clause-rises g c =
    let sum : c.in-Some.count ≡ count_of_all c.in_ok-seats.field-0.outs.items = c.in-Some.ensures.sum ∙ ap count_of_all c.deref.ensures.value in
    c.in_ok-seats.ensures.weighs ∙ ap (λ (n : TileCount). plus (weigh seat_weight c.args.seats.items) (count_weight n)) (sym sum)
