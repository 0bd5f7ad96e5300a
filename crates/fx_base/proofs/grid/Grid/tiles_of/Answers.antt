use Rattle.std.proofs.Common.{◌≡◌, ◌∙◌, ◌++◌, w64, to_z, of_z, sym, ap, subst, arith, rules, ◌↔◌, List, AllPairs}
use Rattle.std.specs.List.{Contains}
use Rattle.std.proofs.lemmas.Bool.{both_ways}
use Rattle.std.proofs.lemmas.Int.{ints}
use Rattle.fx_base.specs.Bounds.{Bounds}
use Rattle.fx_base.specs.Grid.{IsTileOf, IsBefore, tiles_between, tiles_in_rows}
use Rattle.fx_base.proofs.RectLemmas.{IsProper, IsProper-from_rect, is_empty-proper, is_empty-none}
use Rattle.fx_base.proofs.GridLaws.{tiles_of-empty, tiles_of-proper, rows_step, rows_end, tiles_rise, Contains-from_tile, IsTileOf-listed}
use Rattle.fx_base.proofs.grid.Grid.tiles_of.Goals as goal

pub returns-then-is_empty-clause-tiles : goal.returns-then-is_empty-clause-tiles
returns-then-is_empty-clause-tiles c = c.new-tiles.ensures.items ∙ sym (tiles_of-empty c.args.self c.args.r (is_empty-none c.args.r (c.is_empty.ensures.bounds.0 c.if-is_empty.true)))

pub span-left-requires-clause-some : goal.span-left-requires-clause-some
span-left-requires-clause-some c =
    let proper : IsProper c.args.r = IsProper-from_rect c.args.r (rw (← c.r.view_is) c.r.invariant) (λ e. both_ways _ c.if-is_empty.false (c.is_empty.ensures.bounds.1 e)) in
    let some = rw (← c.r.view_is) at proper in
    omega (arith, ints)

pub span-bottom-requires-clause-some : goal.span-bottom-requires-clause-some
span-bottom-requires-clause-some c =
    let proper : IsProper c.args.r = IsProper-from_rect c.args.r (rw (← c.r.view_is) c.r.invariant) (λ e. both_ways _ c.if-is_empty.false (c.is_empty.ensures.bounds.1 e)) in
    let some = rw (← c.r.view_is) at proper in
    omega (arith, ints)

pub loop-j-init : goal.loop-j-init
loop-j-init c =
    let proper : IsProper c.args.r = IsProper-from_rect c.args.r (rw (← c.r.view_is) c.r.invariant) (λ e. both_ways _ c.if-is_empty.false (c.is_empty.ensures.bounds.1 e)) in
    let low : to_z w64 (of_z w64 c.r.inside.y1) ≡ c.args.r.y1 = rw (← c.r.view_is) (omega (arith, ints)) in
    let high : to_z w64 (of_z w64 c.r.inside.y2) ≡ c.args.r.y2 = rw (← c.r.view_is) (omega (arith, ints)) in
    let first = rw low at c.span-bottom.ensures.first in
    let end = rw high at c.span-bottom.ensures.end in
    record {
      low = omega (arith, ints);
      ahead =
          ap (λ tiles. tiles ++ tiles_in_rows c.args.self c.args.r (to_z w64 (of_z w64 c.span-bottom.result.0)) (to_z w64 (of_z w64 c.span-bottom.result.1))) c.new-tiles.ensures.items
          ∙ tiles_of-proper c.args.self c.args.r (to_z w64 (of_z w64 c.span-bottom.result.0)) (to_z w64 (of_z w64 c.span-bottom.result.1)) (is_empty-proper c.args.r proper) (omega (arith, ints)) (omega (arith, ints));
    }

pub loop-j-preserved : goal.loop-j-preserved
loop-j-preserved c =
    let low : to_z w64 (of_z w64 c.r.inside.x1) ≡ c.args.r.x1 = rw (← c.r.view_is) (omega (arith, ints)) in
    let high : to_z w64 (of_z w64 c.r.inside.x2) ≡ c.args.r.x2 = rw (← c.r.view_is) (omega (arith, ints)) in
    let first = rw low at c.span-left.ensures.first in
    let end = rw high at c.span-left.ensures.end in
    let pushed : c.add_row.new.tiles.items ≡ c.loop-j.tiles.items ++ tiles_between c.args.self (to_z w64 (of_z w64 (to_z w64 c.loop-j.j-bits))) (to_z w64 (of_z w64 c.span-left.result.0)) (to_z w64 (of_z w64 c.span-left.result.1)) = search rules in
    record {
      low = omega (arith, ints);
      ahead =
          rows_step c.args.self c.args.r (to_z w64 c.loop-j.j-bits) _ _ (to_z w64 (of_z w64 (to_z w64 c.loop-j.j-bits))) (to_z w64 (of_z w64 c.span-left.result.0)) (to_z w64 (of_z w64 c.span-left.result.1)) c.loop-j.tiles.items c.add_row.new.tiles.items (omega (arith, ints)) (omega (arith, ints)) (omega (arith, ints)) (omega (arith, ints)) (omega (arith, ints)) pushed
          ∙ c.loop-j.invariant.ahead;
    }

pub returns-clause-tiles : goal.returns-clause-tiles
returns-clause-tiles c = sym (rows_end c.args.self c.args.r (to_z w64 c.loop-j.j-bits) (to_z w64 (of_z w64 c.span-bottom.result.1)) c.loop-j.tiles.items (omega (arith, ints))) ∙ c.loop-j.invariant.ahead

pub returns-clause-listed : goal.returns-clause-listed
returns-clause-listed c =
    subst (λ (tiles : List Bounds). (tile : Bounds) → Contains tiles tile ↔ IsTileOf c.args.self c.args.r tile) (sym (returns-clause-tiles c))
    (λ tile. (IsTileOf-listed c.args.self c.args.r tile c.span-left.ensures.side, Contains-from_tile c.args.self c.args.r tile c.span-left.ensures.side))

pub returns-clause-rising : goal.returns-clause-rising
returns-clause-rising c = subst (AllPairs IsBefore) (sym (returns-clause-tiles c)) (tiles_rise c.args.self c.args.r c.span-left.ensures.side)
