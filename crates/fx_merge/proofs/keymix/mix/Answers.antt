use Rattle.std.proofs.Common.{w64, FitsSigned}
use Rattle.std.proofs.lemmas.Int.{to_z-of_z}
use Rattle.fx_merge.proofs.keymix.mix.Goals as goal

pub returns-then-masked-clause-written : goal.returns-then-masked-clause-written
returns-then-masked-clause-written c =
    let frame : FitsSigned w64 c.args.frame = c.ranges.frame in rw c.if-masked.true (simp to_z-of_z at c.render.ensures.written)
