use Rattle.std.proofs.Common.{◌≡◌, ◌-◌, [], length, reverse, take, drop}
use Rattle.fx_group.specs.Faults.{groups_fault}
use Rattle.fx_group.proofs.check.check_groups.Given as goal

abbrev pub invariant-loop-k : goal.invariant-loop-k
invariant-loop-k l =
    groups_fault 0 [] (reverse l.groups) ≡ groups_fault l.k (drop (length l.groups - l.k) l.groups) (reverse (take (length l.groups - l.k) l.groups))
