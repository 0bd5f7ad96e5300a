use Rattle.std.proofs.Common.{◌≡◌, ◌++◌}
use Rattle.fx_pam.specs.Fronts.{fronts}
use Rattle.fx_pam.proofs.writer.push_fronts.Given as goal

abbrev pub invariant-loop-i : goal.invariant-loop-i
invariant-loop-i l = l.out.items ≡ l.initial.out.items ++ fronts l.size l.kept l.row l.i
