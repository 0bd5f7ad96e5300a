use Rattle.std.proofs.Common.{◌≡◌, ◌≤ℤ◌, ◌<ℤ◌}
use Rattle.fx_scene.specs.Reach.{Adds}
use Rattle.fx_scene.proofs.reaching.open_range.Given as goal

abbrev pub invariant-loop-frame : goal.invariant-loop-frame
invariant-loop-frame l =
    (l.first ≤ℤ l.frame)
    × Adds (λ n t. (n ≡ l.node) × (l.first ≤ℤ t) × (t ≤ℤ l.last) × (t <ℤ l.frame)) l.fn.pending l.pending
