use Rattle.std.proofs.Common.{◌+◌, ◌-◌, arith, refl, length, take, drop}
use Rattle.std.proofs.lemmas.Result.{err_from_is_err_and}
use Rattle.fx_group.proofs.Checks.{behind_is, group_told}
use Rattle.fx_group.proofs.check.check_groups.Goals as goal

pub returns-in_err-check_group_at-clause-err : goal.returns-in_err-check_group_at-clause-err
returns-in_err-check_group_at-clause-err c =
    let groups = c.args.groups.now in
    let k = c.loop-k.k in
    let place = length groups - 1 - k in
    let p = err_from_is_err_and c.from_residual.result c.from_residual.ensures.1 in
    let told = group_told groups k place (take (length groups - (place + 1)) (drop (place + 1) groups)) c.index-groups-at.result c.in_err-check_group_at.field-0.0
    (omega arith) refl c.index-groups-at.is (behind_is groups (place + 1)) c.in_err-check_group_at.ensures.err in
    rw (p.1, p.2, c.loop-k.invariant) told
