use Rattle.std.proofs.Common.{◌≡◌, ℤ, ◌∙◌, All, length, ap, sym, subst, arith, rules, vec_len, w64}
use Rattle.std.proofs.lemmas.Int.{to_z-of_z}
use mir.Val.{SFits}
use Rattle.fx_pool.specs.Weights.{weigh}
use Rattle.fx_region.specs.Tables.{Has}
use Rattle.fx_tile.specs.Moments.{IsFree, IsWindowTile, seat_weight}
use Rattle.fx_tile.proofs.BatchLemmas.{all_behind, drawn_counts, drawn_more, few_behind, left_is, next_bands, next_is, rises_more, room}
use Rattle.fx_tile.proofs.batch.draw_bands.Goals as goal

pub tiles_behind-own-requires : goal.tiles_behind-own-requires
tiles_behind-own-requires g c =
    let bands = c.args.bands in
    let first = c.len.ensures in
    let next = c.len-in-batches.ensures in
    let many = c.batches.invariant.many in
    let all = c.in-Ok.ensures.all in
    room c.len.result c.len-in-batches.result c.args.columns (length bands.items) (length c.args.tiles.now)
    (omega (arith, first, next, many, all, bands.ok.0)) c.requires.bands.many

pub draw_batch-requires-clause-tiles : goal.draw_batch-requires-clause-tiles
draw_batch-requires-clause-tiles g c = λ κs within.
    let fits : SFits w64 c.args.frame = c.ranges.frame in
    let setup = c.args.setup.now in
    let all = c.requires.tiles in
    let own = c.tiles_behind-own in
    record {
      setup_is = all.setup_is;
      reached = subst (λ (t : ℤ). Has setup.regions.now setup.scene.now.graph.output t) (sym (to_z-of_z w64 _ fits)) all.reached;
      each = all_behind (IsWindowTile setup.scene.now.graph.project) c.args.tiles.now own.result.now _ _ own.ensures all.each;
      few = few_behind c.args.tiles.now own.result.now _ _ _ own.ensures all.few;
    }

pub draw_batch-requires-clause-bands : goal.draw_batch-requires-clause-bands
draw_batch-requires-clause-bands g c = λ κs within.
    let bands = c.args.bands in
    let first = c.len.ensures in
    let next = c.len-in-batches.ensures in
    let many = c.batches.invariant.many in
    let all = c.in-Ok.ensures.all in
    next_bands c.args.setup.now.scene.now.graph c.args.columns c.args.tiles.now bands.items c.requires.bands c.tiles_behind-own.result.now
    c.in-Ok.next.items c.len.result c.len-in-batches.result (omega (arith, first, next, many, all, bands.ok.0)) c.tiles_behind-own.ensures
    (next_is bands.items c.batches.left.items c.in-Ok.next.items _ _ c.len.result c.len-in-batches.result first next c.batches.invariant.left
    c.in-Ok.ensures.first)

pub batches-preserved : goal.batches-preserved
batches-preserved g c =
    let bands = c.args.bands in
    let done = c.batches.drawn.bands in
    let more = c.in_ok-more.more in
    let drawn = c.in_ok-drawn.drawn in
    let first = c.len.ensures in
    let next = c.len-in-batches.ensures in
    let many = c.batches.invariant.many in
    let all = c.in-Ok.ensures.all in
    let same = c.in_ok-more.ensures.all in
    let sum = c.in_ok-drawn.ensures.many in
    record {
      many = omega (arith, many, all, same, sum);
      left =
          left_is bands.items c.batches.left.items c.first_of.new.bands.items (vec_len done) (vec_len c.in-Ok.next) (vec_len drawn.bands)
          (omega (arith, same, sum)) c.batches.invariant.left c.in-Ok.ensures.left;
      drawn =
          drawn_more g.E.ImageEffect.meaning c.args.setup.now _ c.args.columns c.args.tiles.now bands.items done.items c.in-Ok.next.items more.bands.items
          drawn.bands.items c.tiles_behind-own.result.now c.len.result c.len-in-batches.result c.batches.drawn.count more.count drawn.count
          (omega (arith, first, done.ok.0)) (omega (arith, first, next, many, all, bands.ok.0)) (omega (arith, next, same, more.bands.ok.0))
          c.tiles_behind-own.ensures
          (next_is bands.items c.batches.left.items c.in-Ok.next.items _ _ c.len.result c.len-in-batches.result first next c.batches.invariant.left
          c.in-Ok.ensures.first) c.in_ok-drawn.ensures.bands c.in_ok-drawn.ensures.count c.batches.invariant.drawn c.in_ok-more.ensures.show
          c.in_ok-more.ensures.count;
      rises =
          rises_more (weigh seat_weight c.args.seats.items) (weigh seat_weight c.batches.drawn.seats.items) (weigh seat_weight drawn.seats.items)
          c.batches.drawn.count more.count drawn.count c.in_ok-drawn.ensures.count c.batches.invariant.rises
          (ap (λ s. weigh seat_weight s.items) c.in_ok-drawn.ensures.seats ∙ c.in_ok-more.ensures.rises);
      seats = (
        ap (λ s. vec_len s) c.in_ok-drawn.ensures.seats ∙ c.in_ok-more.ensures.seats.0 ∙ c.batches.invariant.seats.0,
        subst (λ s. All (IsFree c.args.setup.now.shared.now) s.items) (sym c.in_ok-drawn.ensures.seats) c.in_ok-more.ensures.seats.1,
      );
    }

pub returns-clause-show : goal.returns-clause-show
returns-clause-show g c =
    let fits : SFits w64 c.args.frame = c.ranges.frame in
    simp to_z-of_z at c.batches.invariant.drawn.show

pub returns-clause-count : goal.returns-clause-count
returns-clause-count g c =
    let fits : SFits w64 c.args.frame = c.ranges.frame in
    let bands = c.args.bands in
    let drawn = c.batches.drawn in
    let many = c.batches.invariant.many in
    let none : vec_len c.batches.left ≡ 0 = search rules in
    simp to_z-of_z at
    (drawn_counts g.E.ImageEffect.meaning c.args.setup.now _ c.args.columns c.args.tiles.now bands.items drawn.bands.items drawn.count
    (omega (arith, many, none, bands.ok.0, drawn.bands.ok.0)) c.requires.bands.many c.batches.invariant.drawn)
