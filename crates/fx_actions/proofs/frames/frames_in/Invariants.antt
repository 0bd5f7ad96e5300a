use Rattle.std.proofs.Common.{◌≡◌, ℕ, ℤ, List, map}
use Rattle.std.specs.List.{range_with_len}
use Rattle.fx_actions.specs.Read.{AreFrames}
use Rattle.fx_actions.proofs.frames.frames_in.Given as goal

abbrev pub invariant-loop-name : goal.invariant-loop-name
invariant-loop-name l = (spans : ℕ → List (ℤ × ℤ)) → AreFrames l.set l.names spans → map (λ s. s.items) l.frames.items ≡ map spans (range_with_len 0 l.name-index)
