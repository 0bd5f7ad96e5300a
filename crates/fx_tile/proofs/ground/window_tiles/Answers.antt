use Rattle.std.proofs.Common.{ℕ, ◌≤◌, ◌∙◌, sym, ap, subst, arith, length, slice_set, All}
use Rattle.std.proofs.lemmas.Grind.{common_steps}
use Rattle.std.proofs.lemmas.List.Edits.{map_over_more}
use Rattle.fx_base.specs.Rect.{meet}
use Rattle.fx_base.specs.declared.limits.TheConstants.{MOST_TILE_SIDE}
use Rattle.fx_tile.specs.Moments.{IsWindowTile}
use Rattle.fx_tile.proofs.GridLemmas.{each_window_tile, few_tiles}
use Rattle.fx_tile.proofs.ground.window_tiles.Goals as goal

pub loop-tile-preserved : goal.loop-tile-preserved
loop-tile-preserved c =
    let tiles = c.deref_mut-tile-items.result.now in
    let now = c.loop-tile.tile-items in
    let i = c.loop-tile.tile-index in
    let tile = c.tile-item.result in
    ap (slice_set now i) (c.meet.ensures.bounds ∙ ap (meet c.args.project) (sym c.tile-item.is))
    ∙ map_over_more (meet c.args.project) tiles now i tile c.loop-tile-test.true c.loop-tile.invariant c.tile-item.is

pub returns-clause-few : goal.returns-clause-few
returns-clause-few c =
    let few = few_tiles c.args.grid c.args.project c.requires in
    let long = ap length c.in_ok-tiles.ensures.tiles in
    omega (arith, few, long, c.in_ok-tiles.tiles.ok.0)

pub returns-clause-tiles : goal.returns-clause-tiles
returns-clause-tiles c = grind (arith, common_steps)

pub returns-clause-each : goal.returns-clause-each
returns-clause-each c =
    let side = subst (λ (s : ℕ). (1 ≤ s) × (s ≤ MOST_TILE_SIDE)) c.grid.view_is c.grid.invariant in
    subst (All (IsWindowTile c.args.project)) (sym (returns-clause-tiles c)) (each_window_tile c.args.grid c.args.project side.0 side.1 c.requires)
