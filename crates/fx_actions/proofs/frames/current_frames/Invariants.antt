use Rattle.std.proofs.Common.{◌≡◌, map}
use Rattle.std.specs.List.{range_with_len}
use Rattle.fx_effect.specs.Default.{default_spans}
use Rattle.fx_actions.proofs.frames.current_frames.Given as goal

abbrev pub invariant-loop : goal.invariant-loop
invariant-loop l = map (λ s. s.items) l.frames.items ≡ map (default_spans l.values) (range_with_len 0 l.counter)
