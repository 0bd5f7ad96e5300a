use Rattle.std.proofs.Common.{FitsSigned, w64, rules}
use Rattle.std.proofs.lemmas.Int.{to_z-of_z}
use Rattle.fx_params.proofs.KeyLemmas.{set_at_key, insert_in_gap}
use Rattle.fx_params.proofs.param.put.Goals as goal

pub returns-in-Ok-clause-ok : goal.returns-in-Ok-clause-ok
returns-in-Ok-clause-ok c =
    let fits : FitsSigned w64 c.args.key.frame = search rules in
    let found = rw c.deref.ensures.value at (simp to_z-of_z at c.in-Ok.ensures.found) in
    set_at_key c.args.keys.now.items c.args.key _ c.requires found

pub returns-in-Err-clause-ok : goal.returns-in-Err-clause-ok
returns-in-Err-clause-ok c =
    let fits : FitsSigned w64 c.args.key.frame = search rules in
    let absent = rw c.deref.ensures.value at (simp to_z-of_z at c.in-Err.ensures.absent) in
    rw (← insert_in_gap c.args.keys.now.items c.args.key _ absent) (search rules)
