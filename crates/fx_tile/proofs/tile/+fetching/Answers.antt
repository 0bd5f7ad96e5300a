use Rattle.std.proofs.Common.{◌≡◌, ◌+◌, ◌++◌, ◌∷◌, ◌∙◌, All, List, [], None, Option, Some, ap, arith, of_z, rules, set, subst, sym, to_z, w64}
use Rattle.std.proofs.lemmas.Int.{to_z-of_z}
use Rattle.std.proofs.lemmas.List.Sums.{sum_by_push}
use Rattle.std.proofs.lemmas.Result.{IfOk-from_err, on_ok_weaker}
use mir.Val.{SFits}
use Rattle.std.specs.Arc.{arc_value}
use Rattle.std.specs.List.{sum_by}
use Rattle.std.specs.declared.alloc.Global.{Global}
use Rattle.std.specs.declared.sync.Arc.{Arc}
use Rattle.fx_image.specs.Stored.{Stored}
use Rattle.fx_scene.specs.Sites.{scene_nodes}
use Rattle.fx_region.specs.declared.ends.Need.{Need}
use Rattle.fx_tile.specs.Counts.{AskedOnce, Follows, Lands, one_if_some}
use Rattle.fx_tile.specs.Kept.{made_of, seat_in}
use Rattle.fx_tile.specs.Setups.{EachTile, IsFound, IsKeyOf, IsReady, IsRenderable, IsTileOf, MayBeTileOf, renders_needed}
use Rattle.fx_tile.proofs.FlightLemmas.{fetched_after, follows_more, joined, met_both, met_lands, met_same, right_of, tile_of}
use Rattle.fx_tile.proofs.GatherLemmas.{gathers_early, gathers_now}
use Rattle.fx_tile.proofs.KeptLemmas.{gains_loses, keeps_loses, keeps_more, seat_still, stands_kept}
use Rattle.fx_tile.proofs.PieceLemmas.{tiles_long, tiles_more}
use Rattle.fx_tile.proofs.tile.+fetching.Goals as goal
use Rattle.fx_tile.proofs.tile.+fetching.Goals.{gathered-in-Some, gathered-in-None+in_ok-tile-in-None}

pub fetch-returns-in-Some-2-clause-fetched : goal.fetch-returns-in-Some-2-clause-fetched
fetch-returns-in-Some-2-clause-fetched g t c =
    let fits : SFits w64 c.args.frame = c.ranges.frame in
    let r = renders_needed g.E.ImageEffect.meaning c.args.setup.now c.args.node c.args.frame c.args.region in
    let now = (made_of c.loop.seat) in
    let new = (made_of c.fetch_unless_busy.new.seat) in
    let asked = simp to_z-of_z at c.in_ok-image.ensures.asked in
    fetched_after r (made_of c.args.seat.now) now new c.loop.invariant.unasked
    (subst (λ (found : Option (Arc Stored Global)). AskedOnce found r now new) c.in-Some-2.is asked)

pub fetch-fetch_unless_busy-requires : goal.fetch-fetch_unless_busy-requires
fetch-fetch_unless_busy-requires g t c κs within =
    let seat = seat_still c.args.setup.now c.args.seat.now c.loop.seat c.loop.invariant.seat.rows c.requires.seat in
    let same : c.args.frame ≡ to_z w64 (of_z w64 c.args.frame) = sym (to_z-of_z w64 c.args.frame c.ranges.frame) in
    let renderable =
    subst (λ f. IsRenderable g.E.ImageEffect.meaning c.args.setup.now c.args.node f c.args.region) same c.requires.renderable in
    let key = c.in_ok-key-2.ensures ∙ c.in_ok-key.ensures in
    (omega (arith, c.decreases), (within.0, (within.1, (c.requires.setup, (seat, (renderable, key))))))

pub made-landed-requires-clause-right : goal.made-landed-requires-clause-right
made-landed-requires-clause-right g t c =
    let fits : SFits w64 c.args.frame = c.ranges.frame in
    let tile = simp to_z-of_z at c.in-Ok.ensures.tile in
    right_of g.E.ImageEffect.meaning g.E.Catalogue.number_of c.args.setup.now c.requires.setup c.args.whole c.args.node c.args.frame c.args.region (arc_value c.args.flight.key)
    (arc_value c.in-Ok.image) c.requires.renderable.reached c.requires.key tile

pub fetch_unless_busy-returns-in_ok-add_hit-in-Here-clause-tile : goal.fetch_unless_busy-returns-in_ok-add_hit-in-Here-clause-tile
fetch_unless_busy-returns-in_ok-add_hit-in-Here-clause-tile g t c =
    let here = rw c.in-Here.is at c.in_ok-image.ensures.answer in
    tile_of g.E.ImageEffect.meaning g.E.Catalogue.number_of c.args.setup.now c.requires.setup c.is_whole-whole.result c.args.node c.args.frame c.args.region
    (arc_value c.args.key) (arc_value c.in-Here.image) c.requires.renderable.reached c.requires.key here.0

pub made-landed-requires-clause-own : goal.made-landed-requires-clause-own
made-landed-requires-clause-own g t c =
    stands_kept c.args.whole c.args.flight c.image_of.new.ticket c.args.seat.now c.image_of.new.seat c.image_of.ensures.number c.image_of.ensures.seat c.requires.own

pub made-drop_flight-requires-clause-own : goal.made-drop_flight-requires-clause-own
made-drop_flight-requires-clause-own g t c =
    stands_kept c.args.whole c.args.flight c.image_of.new.ticket c.args.seat.now c.image_of.new.seat c.image_of.ensures.number c.image_of.ensures.seat c.requires.own

pub made-returns-in-Ok-clause-loses : goal.made-returns-in-Ok-clause-loses
made-returns-in-Ok-clause-loses g t c =
    keeps_loses c.args.whole c.args.flight c.image_of.new.ticket c.args.seat.now c.image_of.new.seat c.landed.new.seat c.image_of.ensures.number c.image_of.ensures.seat
    c.landed.ensures.loses

pub made-returns-in-Ok-clause-fetched : goal.made-returns-in-Ok-clause-fetched
made-returns-in-Ok-clause-fetched g t c =
    let fits : SFits w64 c.args.frame = c.ranges.frame in
    let r = renders_needed g.E.ImageEffect.meaning c.args.setup.now c.args.node c.args.frame c.args.region in
    let start = made_of c.args.seat.now in
    let mid = made_of c.image_of.new.seat in
    let end = made_of c.landed.new.seat in
    let met = simp to_z-of_z at c.in-Ok.ensures.met in
    on_ok_weaker c.landed.result (λ (lands : Lands mid end). met_lands r start mid end met lands) c.landed.ensures.landed

pub made-returns-in-Ok-clause-follows : goal.made-returns-in-Ok-clause-follows
made-returns-in-Ok-clause-follows g t c =
    let start = made_of c.args.seat.now in
    let mid = made_of c.image_of.new.seat in
    let end = made_of c.landed.new.seat in
    let first = c.in-Ok.ensures.follows in
    on_ok_weaker c.landed.result
    (λ (then : Follows c.image_of.new.sum c.landed.new.sum mid end).
    follows_more c.args.sum.now c.image_of.new.sum c.landed.new.sum start mid end first then) c.landed.ensures.follows

pub made-returns-in-Err-clause-loses : goal.made-returns-in-Err-clause-loses
made-returns-in-Err-clause-loses g t c =
    keeps_loses c.args.whole c.args.flight c.image_of.new.ticket c.args.seat.now c.image_of.new.seat c.drop_flight.new.seat c.image_of.ensures.number
    c.image_of.ensures.seat c.drop_flight.ensures.loses

pub fetch_unless_busy-returns-in_ok-image-in-Fly-clause-seat : goal.fetch_unless_busy-returns-in_ok-image-in-Fly-clause-seat
fetch_unless_busy-returns-in_ok-image-in-Fly-clause-seat g t c =
    let answer = rw c.in-Fly.is at c.in_ok-image.ensures.answer in
    gains_loses c.is_whole-whole.result c.in-Fly.flight c.args.seat.now c.ask.new.seat c.made.new.seat answer.1 c.made.ensures.loses

pub fetch_unless_busy-made-requires : goal.fetch_unless_busy-made-requires
fetch_unless_busy-made-requires g t c κs within =
    let answer = rw c.in-Fly.is at c.in_ok-image.ensures.answer in
    let key = answer.0 ∙ c.requires.key in
    let gains = answer.1 in
    let whole = c.is_whole-whole.result in
    let own =
    joined (seat_in whole c.ask.new.seat).aloft (seat_in whole c.args.seat.now).aloft (c.in-Fly.flight.ticket.number, arc_value c.in-Fly.flight.key) gains.joined in
    let seat = seat_still c.args.setup.now c.args.seat.now c.ask.new.seat gains.rows c.requires.seat in
    let same : c.args.frame ≡ to_z w64 (of_z w64 c.args.frame) = sym (to_z-of_z w64 c.args.frame c.ranges.frame) in
    let renderable =
    subst (λ f. IsRenderable g.E.ImageEffect.meaning c.args.setup.now c.args.node f c.args.region) same c.requires.renderable in
    let keyed =
    subst (λ f. IsKeyOf c.args.setup.now.scene.now c.args.node f c.args.region (arc_value c.in-Fly.flight.key)) same key in
    (omega (arith, c.decreases), (within.0, (within.1, (c.requires.setup, (seat, (renderable, (keyed, own)))))))

pub made-image_of-requires : goal.made-image_of-requires
made-image_of-requires g t c κs within =
    let same : c.args.frame ≡ to_z w64 (of_z w64 c.args.frame) = sym (to_z-of_z w64 c.args.frame c.ranges.frame) in
    let renderable =
    subst (λ f. IsRenderable g.E.ImageEffect.meaning c.args.setup.now c.args.node f c.args.region) same c.requires.renderable in
    (omega (arith, c.decreases), (within.0, (within.1, (c.requires.setup, (c.requires.seat, renderable)))))

pub image_of-gathered-requires : goal.image_of-gathered-requires
image_of-gathered-requires g t c κs within =
    let ready =
    subst (λ z. All (λ need. IsReady g.E.ImageEffect.meaning c.args.setup.now c.args.node need.end) z) (sym c.as_slice.ensures.value)
    c.in_ok-needs.ensures.ready in
    (omega (arith, c.decreases), (within.0, (within.1, (c.requires.setup, (record { rows = c.requires.seat.rows; gates = c.requires.seat.gates }, ready)))))

pub gathered-gathered_unless_busy-requires : goal.gathered-gathered_unless_busy-requires
gathered-gathered_unless_busy-requires g t c κs within =
    (omega (arith, c.decreases), (within.0, (within.1, (c.requires.setup, (c.requires.seat, c.requires.ready)))))

pub gathered-tile_for-requires : goal.gathered-tile_for-requires
gathered-tile_for-requires g t c κs within =
    let seat = seat_still c.args.setup.now c.args.seat.now c.loop-i.seat c.loop-i.invariant.seat.rows c.requires.seat in
    let ready = c.requires.ready c.loop-i.i c.index-needs-i.result c.loop-i-test.true in
    (omega (arith, c.decreases), (within.0, (within.1, (c.requires.setup, (seat, ready)))))

pub gathered_unless_busy-tile_unless_busy-requires : goal.gathered_unless_busy-tile_unless_busy-requires
gathered_unless_busy-tile_unless_busy-requires g t c κs within =
    let seat = seat_still c.args.setup.now c.args.seat.now c.loop-need.seat c.loop-need.invariant.seat.rows c.requires.seat in
    let ready = c.requires.ready c.loop-need.need-index c.need-item.result c.loop-need-test.true in
    let here =
    subst (λ (n : Need). IsReady g.E.ImageEffect.meaning c.args.setup.now c.args.node n.end) (sym c.need-item.is) ready in
    (omega (arith, c.decreases), (within.0, (within.1, (c.requires.setup, (seat, here)))))

pub tile_unless_busy-fetch_unless_busy-requires : goal.tile_unless_busy-fetch_unless_busy-requires
tile_unless_busy-fetch_unless_busy-requires g t c κs within =
    let ready =
    subst (λ e. IsReady g.E.ImageEffect.meaning c.args.setup.now c.args.node e) c.in-Render.is c.requires.ready in
    let fits : SFits w64 c.in-Render.frame = search rules in
    let same : c.in-Render.frame ≡ to_z w64 (of_z w64 c.in-Render.frame) = sym (to_z-of_z w64 c.in-Render.frame fits) in
    let renderable =
    subst (λ f. IsRenderable g.E.ImageEffect.meaning c.args.setup.now c.in-Render.m f c.in-Render.region) same ready.1 in (
      omega (arith, c.decreases, ready.0),
      (within.0, (within.1, (c.requires.setup, (c.requires.seat, (renderable, c.in_ok-key-in-Render.ensures))))),
    )

pub gathered-loop-i-init : goal.gathered-loop-i-init
gathered-loop-i-init g t c =
    let nodes = scene_nodes g.E.ImageEffect.meaning c.args.setup.now.scene.now in
    let early = c.in_ok-early.early.items in
    let some = sum_by one_if_some early in
    record {
      seat = c.gathered_unless_busy.ensures.seat;
      follows = c.in_ok-early.ensures.follows;
      gathers = record {
        met = met_same some (0 + some) (made_of c.args.seat.now) (made_of c.gathered_unless_busy.new.seat) (omega arith) c.in_ok-early.ensures.met;
        long = tiles_long (MayBeTileOf nodes) c.args.needs.now early c.in_ok-early.ensures.tiles;
        early_are = c.in_ok-early.ensures.tiles;
        tiles_are = subst (λ (z : List (Option (Arc Stored Global))). EachTile (IsTileOf nodes) [] z) (sym c.new-tiles.ensures.items) tt;
      };
    }

pub gathered-loop-i-preserved : goal.gathered-loop-i-preserved
gathered-loop-i-preserved g t c =
    let m = g.E.ImageEffect.meaning in
    let setup = c.args.setup.now in
    let needs = c.args.needs.now in
    let i = c.loop-i.i in
    let early = c.loop-i.early.items in
    let next = set early i c.take.new.self in
    let tiles = c.loop-i.tiles.items in
    let more = c.push.new.self.items in
    let start = (made_of c.args.seat.now) in
    let mid = (made_of c.loop-i.seat) in
    let old = c.index_mut.result.now in
    let after : next ≡ set early i None = ap (λ (o : Option (Arc Stored Global)). set early i o) c.take.ensures.after in
    elim c.match-take.branch [
      | gathered-in-Some w ↦
          let seat = w.seat-is in
          let sum = w.sum-is in
          let is : old ≡ Some w.in-Some.tile = sym c.take.ensures.value ∙ w.in-Some.is in
          let pushed : more ≡ tiles ++ Some w.in-Some.tile ∷ [] = c.in_ok-push.ensures.items ∙ ap (λ (o : Option (Arc Stored Global)). tiles ++ o ∷ []) w.tile-is in
          record {
            seat = rw seat c.loop-i.invariant.seat;
            follows = rw (seat, sum) c.loop-i.invariant.follows;
            gathers = rw seat
                (gathers_early m setup needs i early next tiles more start mid mid c.loop-i-test.true c.loop-i.invariant.gathers old c.index_mut.ensures.value after w.in-Some.tile is pushed);
          }
      | gathered-in-None+in_ok-tile-in-None w ↦
          let seat = w.seat-is in
          let sum = w.sum-is in
          let keeps = w.tile_for.ensures.seat in
          let before = c.loop-i.invariant.seat in
          let end = (made_of w.tile_for.new.seat) in
          let need = w.index-needs-i.result in
          let tile = w.in_ok-tile-in-None.tile in
          let is : old ≡ None = sym c.take.ensures.value ∙ w.in-None.is in
          let pushed : more ≡ tiles ++ tile ∷ [] = c.in_ok-push.ensures.items ∙ ap (λ (o : Option (Arc Stored Global)). tiles ++ o ∷ []) w.tile-is in
          let nodes = scene_nodes m setup.scene.now in
          let found = subst (λ (n : Need). IsFound m setup n.end mid end) (sym w.index-needs-i.is) w.in_ok-tile-in-None.ensures.found in
          let of = subst (λ (n : Need). IsTileOf nodes n.end tile) (sym w.index-needs-i.is) w.in_ok-tile-in-None.ensures.tile in
          record {
            seat = rw seat (keeps_more before keeps);
            follows = rw (seat, sum)
                (follows_more c.args.sum.now c.loop-i.sum w.tile_for.new.sum start mid end c.loop-i.invariant.follows w.in_ok-tile-in-None.ensures.follows);
            gathers = rw seat
                (gathers_now m setup needs i early next tiles more start mid end c.loop-i-test.true c.loop-i.invariant.gathers old c.index_mut.ensures.value after need tile is w.index-needs-i.is found of pushed);
          }
    ]

pub gathered_unless_busy-loop-need-preserved : goal.gathered_unless_busy-loop-need-preserved
gathered_unless_busy-loop-need-preserved g t c =
    let nodes = scene_nodes g.E.ImageEffect.meaning c.args.setup.now.scene.now in
    let keeps = c.tile_unless_busy.ensures.seat in
    let old = c.loop-need.invariant.seat in
    let tiles = c.loop-need.tiles.items in
    let tile = c.in_ok-tile.tile in
    let start = (made_of c.args.seat.now) in
    let mid = (made_of c.loop-need.seat) in
    let end = (made_of c.tile_unless_busy.new.seat) in
    record {
      seat = keeps_more old keeps;
      met = met_same (sum_by one_if_some tiles + one_if_some tile) (sum_by one_if_some c.push.new.self.items) start end
          (sym (ap (sum_by one_if_some) c.in_ok-push.ensures.items ∙ sum_by_push one_if_some tiles tile))
          (met_both (sum_by one_if_some tiles) (one_if_some tile) start mid end c.loop-need.invariant.met c.in_ok-tile.ensures.met);
      follows = follows_more c.args.sum.now c.loop-need.sum c.tile_unless_busy.new.sum start mid end c.loop-need.invariant.follows c.in_ok-tile.ensures.follows;
      tiles = tiles_more (MayBeTileOf nodes) c.args.needs.now tiles c.push.new.self.items c.loop-need.need-index c.need-item.result tile
          c.loop-need-test.true c.need-item.is c.loop-need.invariant.tiles c.in_ok-tile.ensures.tile c.in_ok-push.ensures.items;
    }

-- ---- where memory is wanting nothing is promised of what is found

pub fetch-returns-in_err-key-clause-tile : goal.fetch-returns-in_err-key-clause-tile
fetch-returns-in_err-key-clause-tile g t c = IfOk-from_err _ _ c.from_residual.ensures.0

pub fetch-returns-in_err-key-clause-fetched : goal.fetch-returns-in_err-key-clause-fetched
fetch-returns-in_err-key-clause-fetched g t c = IfOk-from_err _ _ c.from_residual.ensures.0

pub fetch-returns-in_err-key-clause-follows : goal.fetch-returns-in_err-key-clause-follows
fetch-returns-in_err-key-clause-follows g t c = IfOk-from_err _ _ c.from_residual.ensures.0

pub fetch-returns-in_err-key-2-clause-tile : goal.fetch-returns-in_err-key-2-clause-tile
fetch-returns-in_err-key-2-clause-tile g t c = IfOk-from_err _ _ c.from_residual-in_err-key-2.ensures.0

pub fetch-returns-in_err-key-2-clause-fetched : goal.fetch-returns-in_err-key-2-clause-fetched
fetch-returns-in_err-key-2-clause-fetched g t c = IfOk-from_err _ _ c.from_residual-in_err-key-2.ensures.0

pub fetch-returns-in_err-key-2-clause-follows : goal.fetch-returns-in_err-key-2-clause-follows
fetch-returns-in_err-key-2-clause-follows g t c = IfOk-from_err _ _ c.from_residual-in_err-key-2.ensures.0

pub fetch-returns-in_err-image-clause-tile : goal.fetch-returns-in_err-image-clause-tile
fetch-returns-in_err-image-clause-tile g t c = IfOk-from_err _ _ c.from_residual-in_err-image.ensures.0

pub fetch-returns-in_err-image-clause-fetched : goal.fetch-returns-in_err-image-clause-fetched
fetch-returns-in_err-image-clause-fetched g t c = IfOk-from_err _ _ c.from_residual-in_err-image.ensures.0

pub fetch-returns-in_err-image-clause-follows : goal.fetch-returns-in_err-image-clause-follows
fetch-returns-in_err-image-clause-follows g t c = IfOk-from_err _ _ c.from_residual-in_err-image.ensures.0

pub fetch_unless_busy-returns-in_err-image-clause-tile : goal.fetch_unless_busy-returns-in_err-image-clause-tile
fetch_unless_busy-returns-in_err-image-clause-tile g t c = IfOk-from_err _ _ c.from_residual.ensures.0

pub fetch_unless_busy-returns-in_err-image-clause-asked : goal.fetch_unless_busy-returns-in_err-image-clause-asked
fetch_unless_busy-returns-in_err-image-clause-asked g t c = IfOk-from_err _ _ c.from_residual.ensures.0

pub fetch_unless_busy-returns-in_err-image-clause-follows : goal.fetch_unless_busy-returns-in_err-image-clause-follows
fetch_unless_busy-returns-in_err-image-clause-follows g t c = IfOk-from_err _ _ c.from_residual.ensures.0

pub fetch_unless_busy-returns-in_err-add_hit-in-Here-clause-tile : goal.fetch_unless_busy-returns-in_err-add_hit-in-Here-clause-tile
fetch_unless_busy-returns-in_err-add_hit-in-Here-clause-tile g t c = IfOk-from_err _ _ c.from_residual-in_err-add_hit-in-Here.ensures.0

pub fetch_unless_busy-returns-in_err-add_hit-in-Here-clause-asked : goal.fetch_unless_busy-returns-in_err-add_hit-in-Here-clause-asked
fetch_unless_busy-returns-in_err-add_hit-in-Here-clause-asked g t c = IfOk-from_err _ _ c.from_residual-in_err-add_hit-in-Here.ensures.0

pub fetch_unless_busy-returns-in_err-add_hit-in-Here-clause-follows : goal.fetch_unless_busy-returns-in_err-add_hit-in-Here-clause-follows
fetch_unless_busy-returns-in_err-add_hit-in-Here-clause-follows g t c = IfOk-from_err _ _ c.from_residual-in_err-add_hit-in-Here.ensures.0

pub fetch_unless_busy-returns-in_err-image-in-Fly-clause-tile : goal.fetch_unless_busy-returns-in_err-image-in-Fly-clause-tile
fetch_unless_busy-returns-in_err-image-in-Fly-clause-tile g t c = IfOk-from_err _ _ c.from_residual-in_err-image-in-Fly.ensures.0

pub fetch_unless_busy-returns-in_err-image-in-Fly-clause-asked : goal.fetch_unless_busy-returns-in_err-image-in-Fly-clause-asked
fetch_unless_busy-returns-in_err-image-in-Fly-clause-asked g t c = IfOk-from_err _ _ c.from_residual-in_err-image-in-Fly.ensures.0

pub fetch_unless_busy-returns-in_err-image-in-Fly-clause-follows : goal.fetch_unless_busy-returns-in_err-image-in-Fly-clause-follows
fetch_unless_busy-returns-in_err-image-in-Fly-clause-follows g t c = IfOk-from_err _ _ c.from_residual-in_err-image-in-Fly.ensures.0

pub gathered-returns-in_err-early-clause-tiles : goal.gathered-returns-in_err-early-clause-tiles
gathered-returns-in_err-early-clause-tiles g t c = IfOk-from_err _ _ c.from_residual.ensures.0

pub gathered-returns-in_err-early-clause-met : goal.gathered-returns-in_err-early-clause-met
gathered-returns-in_err-early-clause-met g t c = IfOk-from_err _ _ c.from_residual.ensures.0

pub gathered-returns-in_err-early-clause-follows : goal.gathered-returns-in_err-early-clause-follows
gathered-returns-in_err-early-clause-follows g t c = IfOk-from_err _ _ c.from_residual.ensures.0

pub gathered-returns-in_err-tile-in-None-clause-tiles : goal.gathered-returns-in_err-tile-in-None-clause-tiles
gathered-returns-in_err-tile-in-None-clause-tiles g t c = IfOk-from_err _ _ c.from_residual-in_err-tile-in-None.ensures.0

pub gathered-returns-in_err-tile-in-None-clause-met : goal.gathered-returns-in_err-tile-in-None-clause-met
gathered-returns-in_err-tile-in-None-clause-met g t c = IfOk-from_err _ _ c.from_residual-in_err-tile-in-None.ensures.0

pub gathered-returns-in_err-tile-in-None-clause-follows : goal.gathered-returns-in_err-tile-in-None-clause-follows
gathered-returns-in_err-tile-in-None-clause-follows g t c = IfOk-from_err _ _ c.from_residual-in_err-tile-in-None.ensures.0

pub gathered-returns-in_err-push-clause-tiles : goal.gathered-returns-in_err-push-clause-tiles
gathered-returns-in_err-push-clause-tiles g t c = IfOk-from_err _ _ c.from_residual-in_err-push.ensures.0

pub gathered-returns-in_err-push-clause-met : goal.gathered-returns-in_err-push-clause-met
gathered-returns-in_err-push-clause-met g t c = IfOk-from_err _ _ c.from_residual-in_err-push.ensures.0

pub gathered-returns-in_err-push-clause-follows : goal.gathered-returns-in_err-push-clause-follows
gathered-returns-in_err-push-clause-follows g t c = IfOk-from_err _ _ c.from_residual-in_err-push.ensures.0

pub gathered_unless_busy-returns-in_err-tile-clause-tiles : goal.gathered_unless_busy-returns-in_err-tile-clause-tiles
gathered_unless_busy-returns-in_err-tile-clause-tiles g t c = IfOk-from_err _ _ c.from_residual.ensures.0

pub gathered_unless_busy-returns-in_err-tile-clause-met : goal.gathered_unless_busy-returns-in_err-tile-clause-met
gathered_unless_busy-returns-in_err-tile-clause-met g t c = IfOk-from_err _ _ c.from_residual.ensures.0

pub gathered_unless_busy-returns-in_err-tile-clause-follows : goal.gathered_unless_busy-returns-in_err-tile-clause-follows
gathered_unless_busy-returns-in_err-tile-clause-follows g t c = IfOk-from_err _ _ c.from_residual.ensures.0

pub gathered_unless_busy-returns-in_err-push-clause-tiles : goal.gathered_unless_busy-returns-in_err-push-clause-tiles
gathered_unless_busy-returns-in_err-push-clause-tiles g t c = IfOk-from_err _ _ c.from_residual-in_err-push.ensures.0

pub gathered_unless_busy-returns-in_err-push-clause-met : goal.gathered_unless_busy-returns-in_err-push-clause-met
gathered_unless_busy-returns-in_err-push-clause-met g t c = IfOk-from_err _ _ c.from_residual-in_err-push.ensures.0

pub gathered_unless_busy-returns-in_err-push-clause-follows : goal.gathered_unless_busy-returns-in_err-push-clause-follows
gathered_unless_busy-returns-in_err-push-clause-follows g t c = IfOk-from_err _ _ c.from_residual-in_err-push.ensures.0

pub image_of-returns-in_err-needs-clause-tile : goal.image_of-returns-in_err-needs-clause-tile
image_of-returns-in_err-needs-clause-tile g t c = IfOk-from_err _ _ c.from_residual.ensures.0

pub image_of-returns-in_err-needs-clause-met : goal.image_of-returns-in_err-needs-clause-met
image_of-returns-in_err-needs-clause-met g t c = IfOk-from_err _ _ c.from_residual.ensures.0

pub image_of-returns-in_err-needs-clause-follows : goal.image_of-returns-in_err-needs-clause-follows
image_of-returns-in_err-needs-clause-follows g t c = IfOk-from_err _ _ c.from_residual.ensures.0

pub image_of-returns-in_err-needs-clause-stamped : goal.image_of-returns-in_err-needs-clause-stamped
image_of-returns-in_err-needs-clause-stamped g t c = IfOk-from_err _ _ c.from_residual.ensures.0

pub image_of-returns-in_err-tiles-clause-tile : goal.image_of-returns-in_err-tiles-clause-tile
image_of-returns-in_err-tiles-clause-tile g t c = IfOk-from_err _ _ c.from_residual-in_err-tiles.ensures.0

pub image_of-returns-in_err-tiles-clause-met : goal.image_of-returns-in_err-tiles-clause-met
image_of-returns-in_err-tiles-clause-met g t c = IfOk-from_err _ _ c.from_residual-in_err-tiles.ensures.0

pub image_of-returns-in_err-tiles-clause-follows : goal.image_of-returns-in_err-tiles-clause-follows
image_of-returns-in_err-tiles-clause-follows g t c = IfOk-from_err _ _ c.from_residual-in_err-tiles.ensures.0

pub image_of-returns-in_err-tiles-clause-stamped : goal.image_of-returns-in_err-tiles-clause-stamped
image_of-returns-in_err-tiles-clause-stamped g t c = IfOk-from_err _ _ c.from_residual-in_err-tiles.ensures.0

pub tile_unless_busy-returns-in_err-key-in-Render-clause-tile : goal.tile_unless_busy-returns-in_err-key-in-Render-clause-tile
tile_unless_busy-returns-in_err-key-in-Render-clause-tile g t c = IfOk-from_err _ _ c.from_residual.ensures.0

pub tile_unless_busy-returns-in_err-key-in-Render-clause-met : goal.tile_unless_busy-returns-in_err-key-in-Render-clause-met
tile_unless_busy-returns-in_err-key-in-Render-clause-met g t c = IfOk-from_err _ _ c.from_residual.ensures.0

pub tile_unless_busy-returns-in_err-key-in-Render-clause-follows : goal.tile_unless_busy-returns-in_err-key-in-Render-clause-follows
tile_unless_busy-returns-in_err-key-in-Render-clause-follows g t c = IfOk-from_err _ _ c.from_residual.ensures.0
