use Rattle.std.proofs.Common.{◌≡◌, ◌+◌, ◌≤◌, drop}
use Rattle.fx_base.specs.Pattern.{runs, runs_after}
use Rattle.fx_base.proofs.pattern.runs_of.Given as goal

-- the runs so far and those to come are the whole text's
abbrev pub invariant-loop-b : goal.invariant-loop-b
invariant-loop-b l = record {
  runs_are : l.count + runs_after l.was (drop l.b-index l.text) ≡ runs l.text;
  few : l.count ≤ l.b-index;
}
