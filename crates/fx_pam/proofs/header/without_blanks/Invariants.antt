use Rattle.std.proofs.Common.{◌≡◌, length}
use Rattle.fx_pam.specs.Header.{without_blanks}
use Rattle.fx_pam.proofs.header.without_blanks.Given as goal

abbrev pub invariant-loop-rest : goal.invariant-loop-rest
invariant-loop-rest l = without_blanks l.rest ≡ without_blanks l.line

abbrev pub decreases-loop-rest : goal.decreases-loop-rest
decreases-loop-rest l = length l.rest
