use Rattle.std.proofs.lemmas.Int.{to_z-of_z}
use Rattle.fx_params.proofs.ValueLemmas.{passed_at, passed_gap, last_before}
use Rattle.fx_params.proofs.param.last_passed.Goals as goal

pub returns-in-Ok : goal.returns-in-Ok
returns-in-Ok c =
    let fits = c.ranges.frame in
    passed_at _ c.args.frame _ c.requires (simp to_z-of_z at c.in-Ok.ensures.found)

pub returns-in-Err : goal.returns-in-Err
returns-in-Err c =
    let fits = c.ranges.frame in
    let passed = passed_gap _ c.args.frame _ (simp to_z-of_z at c.in-Err.ensures.absent) in
    last_before _ _ _ c.checked_sub.result passed c.checked_sub.ensures
