use Rattle.std.proofs.lemmas.Int.{to_z-of_z}
use Rattle.fx_props.proofs.set.PropSet.set_int.Goals as goal

pub returns-clause-ok : goal.returns-clause-ok
returns-clause-ok c =
    let fits = c.ranges.v in
    simp to_z-of_z at c.put.ensures.ok
