use Rattle.std.proofs.Common.{◌≡◌, ℕ, ◌-◌, ◌<◌, ◌≤◌, Some, false, map, get_or, take, vec_len, vec_capacity}
use Rattle.std.specs.Mem.Slots.{slots_items, slots_filled, slots_len}
use Rattle.std.specs.Mem.Slots.Ownership.{Filled}
use Rattle.fx_turn.proofs.fill.take_all.Given as goal

abbrev pub invariant-loop-place : goal.invariant-loop-place
invariant-loop-place g l = (slots_items l.closed.slots ≡ slots_items l.initial.closed.slots) × (slots_len l.closed.slots ≡ l.count)
    × Filled (slots_filled l.closed.slots) l.place l.count × ((k : ℕ) → k < l.place → get_or (slots_filled l.closed.slots) k false ≡ false)
    × (l.place ≤ l.count) × (map Some l.values.items ≡ take l.place (slots_items l.initial.closed.slots)) × (vec_len l.values ≡ l.place) × (l.count ≤ vec_capacity l.values)

abbrev pub decreases-loop-place : goal.decreases-loop-place
decreases-loop-place g l = l.count - l.place
