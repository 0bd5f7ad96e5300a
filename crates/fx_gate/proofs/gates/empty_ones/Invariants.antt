use Rattle.std.proofs.Common.{◌≡◌, ◌≤◌, vec_len, vec_capacity}
use Rattle.fx_gate.proofs.gates.empty_ones.Given as goal

abbrev pub invariant-loop : goal.invariant-loop
invariant-loop l = (vec_len l.workspaces ≡ l.counter) × (l.count ≤ vec_capacity l.workspaces)
