use Rattle.std.proofs.Common.{◌≤◌, ◌<◌, ◌-◌}
use Rattle.fx_area.specs.Gathered.{AreGathered}
use Rattle.fx_area.proofs.extreme.gather.Given as goal

abbrev pub invariant-loop-have : goal.invariant-loop-have
invariant-loop-have l =
    record {
      some : 0 < l.have;
      most : l.have ≤ l.wanted;
      gathered : AreGathered l.extreme l.depth l.count l.stride l.have l.initial.bytes l.bytes;
    }

abbrev pub decreases-loop-have : goal.decreases-loop-have
decreases-loop-have l = l.wanted - l.have
