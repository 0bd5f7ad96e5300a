use Rattle.std.proofs.Common.{w64}
use Rattle.std.proofs.lemmas.Int.{to_z-of_z}
use mir.Val.{SFits}
use Rattle.fx_actions.proofs.asking.overwrite.Goals as goal

pub returns-in-Ok-clause-put : goal.returns-in-Ok-clause-put
returns-in-Ok-clause-put c =
    let fits : SFits w64 c.args.n = c.ranges.n in
    simp to_z-of_z at c.in-Ok.ensures.ok
