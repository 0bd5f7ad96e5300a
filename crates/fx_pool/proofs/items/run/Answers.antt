use Rattle.std.proofs.Common.{ℕ, List, ◌∷◌, ◌++◌, [], ap, ◌∙◌, refl}
use Rattle.fx_pool.proofs.Turns.{stops_before, stops_at, ends, goes_on}
use Rattle.fx_pool.proofs.items.run.Goals as goal

pub returns-then-is_err : goal.returns-then-is_err
returns-then-is_err g c = record { worked = stops_before _ _ _ _ _ _ c.loop.worker _ c.loop.invariant refl refl c.reserve.ensures.items refl }

pub returns-in_default : goal.returns-in_default
returns-in_default g c = record { worked = ends _ _ _ _ _ _ c.loop.worker _ c.loop.invariant refl c.in_default.ensures.none.0 c.in_default.ensures.none.2 c.reserve.ensures.items }

pub loop-preserved : goal.loop-preserved
loop-preserved g c =
    let drawn = c.in-Some-next_item.ensures.item in
    let made : g.row.I.Denot × g.row.J-Out.Denot = (c.turn.new.item, c.in-Ok.out) in
    goes_on _ _ _ _ _ _ c.loop.worker _ c.loop.invariant c.in-Some-next_item.index made c.in-Ok.ensures.fits drawn.2
    (c.push_reserved.ensures.items ∙ ap (λ (os : List (ℕ × (g.row.I.Denot × g.row.J-Out.Denot))). os ++ (c.in-Some-next_item.index, made) ∷ []) c.reserve.ensures.items)
    (c.in-Some-next_item.item, drawn.1, c.in-Ok.ensures.right)
    c.in-Ok.ensures.weighs
    refl

pub returns-in-Err : goal.returns-in-Err
returns-in-Err g c = record {
  worked = stops_at _ _ _ _ _ _ c.loop.worker _ c.loop.invariant c.in-Some-next_item.index c.in-Err.ensures.fits c.in-Some-next_item.ensures.item.2 c.reserve.ensures.items refl;
}
