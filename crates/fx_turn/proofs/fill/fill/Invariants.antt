use Rattle.std.proofs.Common.{◌≡◌, ◌++◌, [], List, reverse, length, vec_len}
use Rattle.fx_turn.specs.Turning.{with_turn, stage_of}
use Rattle.fx_turn.proofs.fill.fill.Given as goal

abbrev pub invariant-loop-value : goal.invariant-loop-value
invariant-loop-value g l = (moved : List g.row.V.Denot) × (moved ++ reverse l.values.items ≡ l.fn.values.items) × (length moved ≡ l.place)
    × (l.token.table_id ≡ l.initial.token.table_id) × (l.token.me ≡ (with_turn l.initial.token.me.0 (stage_of l.slots.shared.table_id.slots moved), []))

abbrev pub decreases-loop-value : goal.decreases-loop-value
decreases-loop-value g l = vec_len l.values
