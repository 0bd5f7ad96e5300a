use Rattle.std.proofs.Common.{ℕ, List, ◌∷◌, ◌++◌, [], ap, ◌∙◌, refl}
use Rattle.fx_pool.proofs.Turns.{stops_before, stops_at, ends, goes_on}
use Rattle.fx_pool.proofs.numbers.run.Goals as goal

pub returns-then-is_err : goal.returns-then-is_err
returns-then-is_err g c = stops_before _ _ _ _ _ _ c.loop.worker _ c.loop.invariant refl refl c.reserve.ensures.items refl

pub returns-in_default : goal.returns-in_default
returns-in_default g c = ends _ _ _ _ _ _ c.loop.worker _ c.loop.invariant refl c.in_default.ensures.none.0 c.in_default.ensures.none.2 c.reserve.ensures.items

pub loop-preserved : goal.loop-preserved
loop-preserved g c =
    goes_on _ _ _ _ _ _ c.loop.worker _ c.loop.invariant c.in-Some-next.index c.in-Ok.out c.in-Ok.ensures.fits c.in-Some-next.ensures.number.1
    (c.push_reserved.ensures.items ∙ ap (λ (os : List (ℕ × g.row.J-Out.Denot)). os ++ (c.in-Some-next.index, c.in-Ok.out) ∷ []) c.reserve.ensures.items)
    c.in-Ok.ensures.right
    c.in-Ok.ensures.weighs
    refl

pub returns-in-Err : goal.returns-in-Err
returns-in-Err g c = stops_at _ _ _ _ _ _ c.loop.worker _ c.loop.invariant c.in-Some-next.index c.in-Err.ensures.fits c.in-Some-next.ensures.number.1 c.reserve.ensures.items refl
