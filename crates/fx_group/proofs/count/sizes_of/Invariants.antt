use Rattle.std.proofs.Common.{◌≡◌, ◌-◌, length, drop}
use Rattle.fx_group.specs.Counted.{AreSizes}
use Rattle.fx_group.proofs.count.sizes_of.Given as goal

abbrev pub invariant-loop-k : goal.invariant-loop-k
invariant-loop-k l =
    record {
      long : length l.sizes.items ≡ l.k;
      are : AreSizes (drop (length l.groups - l.k) l.groups) l.sizes.items;
    }
