use Rattle.std.proofs.Common.{take, All}
use Rattle.std.specs.List.{flat_map}
use Rattle.fx_region.specs.Needs.{need_shown}
use Rattle.fx_plan.specs.Keys.{Adds, HasRect}
use Rattle.fx_plan.specs.Plan.{need_entry}
use Rattle.fx_region.specs.declared.ends.Need.{Need}
use Rattle.fx_plan.proofs.planning.add_each.Given as goal

abbrev pub invariant-loop-need : goal.invariant-loop-need
invariant-loop-need l =
    let entries = flat_map (λ (n : Need). need_entry (need_shown n)) (take l.need-index l.needs) in
    Adds entries l.fn.pending l.pending × All HasRect entries
