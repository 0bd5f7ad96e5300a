use Rattle.std.proofs.Common.{◌≡◌, ℕ, map}
use Rattle.std.specs.List.{range_with_len}
use Rattle.fx_base.specs.Bounds.{Bounds}
use Rattle.fx_actions.specs.Read.{IsInterest}
use Rattle.fx_actions.proofs.interest.regions_in.Given as goal

abbrev pub invariant-loop-name : goal.invariant-loop-name
invariant-loop-name l = (regions : ℕ → Bounds) → IsInterest l.set l.names regions → l.regions.items ≡ map regions (range_with_len 0 l.name-index)
