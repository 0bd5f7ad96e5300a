use Rattle.std.proofs.Common.{◌≡◌, length, reverse}
use Rattle.fx_pam.specs.Header.{without_blanks}
use Rattle.fx_pam.proofs.header.without_blanks_behind.Given as goal

abbrev pub invariant-loop-rest : goal.invariant-loop-rest
invariant-loop-rest l = without_blanks (reverse l.rest) ≡ without_blanks (reverse l.line)

abbrev pub decreases-loop-rest : goal.decreases-loop-rest
decreases-loop-rest l = length l.rest
