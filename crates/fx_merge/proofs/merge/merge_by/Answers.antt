use Rattle.std.proofs.Common.{w64, FitsSigned}
use Rattle.std.proofs.lemmas.Int.{to_z-of_z}
use Rattle.fx_merge.proofs.merge.merge_by.Goals as goal

pub returns-in-Over-clause-written : goal.returns-in-Over-clause-written
returns-in-Over-clause-written c = let frame : FitsSigned w64 c.args.frame = c.ranges.frame in rw c.in-Over.is (simp to_z-of_z at c.fill.ensures.written)

pub returns-in-Plus-clause-written : goal.returns-in-Plus-clause-written
returns-in-Plus-clause-written c = let frame : FitsSigned w64 c.args.frame = c.ranges.frame in rw c.in-Plus.is (simp to_z-of_z at c.fill-in-Plus.ensures.written)

pub returns-in-Multiply-clause-written : goal.returns-in-Multiply-clause-written
returns-in-Multiply-clause-written c = let frame : FitsSigned w64 c.args.frame = c.ranges.frame in rw c.in-Multiply.is (simp to_z-of_z at c.fill-in-Multiply.ensures.written)

pub returns-in-Screen-clause-written : goal.returns-in-Screen-clause-written
returns-in-Screen-clause-written c = let frame : FitsSigned w64 c.args.frame = c.ranges.frame in rw c.in-Screen.is (simp to_z-of_z at c.fill-in-Screen.ensures.written)

pub returns-in-Min-clause-written : goal.returns-in-Min-clause-written
returns-in-Min-clause-written c = let frame : FitsSigned w64 c.args.frame = c.ranges.frame in rw c.in-Min.is (simp to_z-of_z at c.fill-in-Min.ensures.written)

pub returns-in-Max-clause-written : goal.returns-in-Max-clause-written
returns-in-Max-clause-written c = let frame : FitsSigned w64 c.args.frame = c.ranges.frame in rw c.in-Max.is (simp to_z-of_z at c.fill-in-Max.ensures.written)

pub returns-in-Minus-clause-written : goal.returns-in-Minus-clause-written
returns-in-Minus-clause-written c = let frame : FitsSigned w64 c.args.frame = c.ranges.frame in rw c.in-Minus.is (simp to_z-of_z at c.fill-in-Minus.ensures.written)
