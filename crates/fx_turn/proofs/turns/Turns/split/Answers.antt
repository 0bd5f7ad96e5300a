use Rattle.std.proofs.Common.{rules, sym, ap, ◌∙◌}
use Rattle.fx_turn.proofs.Keeps.{splits}
use Rattle.fx_turn.proofs.Sittings.{same_table, is_free}
use Rattle.fx_turn.proofs.turns.Turns.split.Goals as goal

pub split_seat-token-requires : goal.split_seat-token-requires
split_seat-token-requires g c =
    let row = ap (λ s. s.row) c.seat.view_is ∙ (c.requires.row ∙ sym c.self.view_is) in
    let free = is_free _ _ _ c.seat.invariant (ap (λ s. s.turn) c.seat.view_is ∙ c.requires.free) in (
      same_table _ _ _ _ row,
      search rules,
      splits g.V.Fits.fits g.V.Fits.tally g.V.Fits.claims _ _ _ (search rules) free.0,
    )
