use Rattle.std.proofs.Common.{rules, sym, ap, ◌∙◌}
use Rattle.fx_turn.proofs.Keeps.{joins}
use Rattle.fx_turn.proofs.Sittings.{same_table, is_free}
use Rattle.fx_turn.proofs.turns.Turns.join.Goals as goal

pub join_seat-requires : goal.join_seat-requires
join_seat-requires g c =
    let row = ap (λ s. s.row) c.seat.view_is ∙ (c.requires.row ∙ sym c.self.view_is) in
    let other_row = ap (λ s. s.row) c.other.view_is ∙ (c.requires.other_row ∙ sym c.self.view_is) in
    let free = is_free _ _ _ c.seat.invariant (ap (λ s. s.turn) c.seat.view_is ∙ c.requires.free) in
    let other_free = is_free _ _ _ c.other.invariant (ap (λ s. s.turn) c.other.view_is ∙ c.requires.other_free) in (
      same_table _ _ _ _ row,
      same_table _ _ _ _ other_row,
      other_free.1,
      search rules,
      joins g.V.Fits.fits g.V.Fits.tally g.V.Fits.claims _ _ _ _ _ c.seat.invariant.some_part free.0 other_free.0,
    )
