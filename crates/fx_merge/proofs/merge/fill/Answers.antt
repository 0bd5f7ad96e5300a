use Rattle.std.proofs.Common.{w64, FitsSigned}
use Rattle.std.proofs.lemmas.Int.{to_z-of_z}
use Rattle.fx_merge.proofs.merge.fill.Goals as goal

pub returns-clause-written : goal.returns-clause-written
returns-clause-written g c = let frame : FitsSigned w64 c.args.frame = c.ranges.frame in simp to_z-of_z at c.fill_pairs.ensures.written
