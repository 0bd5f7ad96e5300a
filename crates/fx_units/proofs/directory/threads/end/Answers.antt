use Rattle.std.proofs.Common.{ℕ, [], ◌∷◌, sym, ap, ◌∙◌}
use Rattle.std.specs.Arc.{arc_value}
use Rattle.fx_core.specs.declared.flight.Flight.{Flight}
use Rattle.fx_directory.specs.Seats.{DirSeatState}
use Rattle.fx_directory.proofs.CallerLemmas.{last_leaves}
use Rattle.fx_units.proofs.directory.threads.end.Goals as goal

pub returns-in_default-clause-aloft : goal.returns-in_default-clause-aloft
returns-in_default-clause-aloft g c = last_leaves c.args.seat.now.aloft c.drop_flight.new.seat.aloft [] c.args.flight c.drop_flight.ensures.aloft c.requires.own

pub returns-in-Ok-clause-aloft : goal.returns-in-Ok-clause-aloft
returns-in-Ok-clause-aloft g c = last_leaves c.args.seat.now.aloft c.land.new.seat.aloft [] c.args.flight c.in-Ok.ensures.aloft c.requires.own

pub returns-in-Err-clause-aloft : goal.returns-in-Err-clause-aloft
returns-in-Err-clause-aloft g c =
    let same = ap (λ (s : DirSeatState ℕ ℕ). s.aloft) c.in-Err.ensures.unchanged in
    let back = ap (λ (f : Flight ℕ). (f.ticket.number, arc_value f.key) ∷ []) (sym c.in-Err.ensures.back.0) in
    last_leaves c.land.new.seat.aloft c.drop_flight-in-Err.new.seat.aloft [] c.in-Err.flight c.drop_flight-in-Err.ensures.aloft (same ∙ (c.requires.own ∙ back))
