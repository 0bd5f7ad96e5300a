use Rattle.std.proofs.Common.{refl, arith}
use Rattle.std.proofs.lemmas.Int.{to_z-of_z}
use Rattle.fx_params.proofs.KeyLemmas.{few_keys, position_at, position_gap}
use Rattle.fx_params.proofs.param.Param.key_index.Goals as goal

pub overflow_cast-result : goal.overflow_cast-result
overflow_cast-result c =
    let inside = rw c.deref.ensures.value at c.in-Ok.ensures.found.in_range in
    omega (arith, inside, few_keys c.self.inside.keys.items c.self.invariant.frames c.self.invariant.rising)

pub returns-in-Ok : goal.returns-in-Ok
returns-in-Ok c =
    let fits = c.ranges.frame in
    let found = rw c.deref.ensures.value at (simp to_z-of_z at c.in-Ok.ensures.found) in
    rw (← c.self.view_is, position_at c.self.inside.keys.items c.args.frame _ c.self.invariant.rising found) refl

pub returns-in-Err : goal.returns-in-Err
returns-in-Err c =
    let fits = c.ranges.frame in
    let absent = rw c.deref.ensures.value at (simp to_z-of_z at c.in-Err.ensures.absent) in
    rw (← c.self.view_is, position_gap c.self.inside.keys.items c.args.frame _ absent) refl
