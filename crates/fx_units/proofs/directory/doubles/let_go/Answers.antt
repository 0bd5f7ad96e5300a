use Rattle.std.proofs.Common.{[]}
use Rattle.fx_directory.proofs.CallerLemmas.{last_leaves}
use Rattle.fx_units.proofs.directory.doubles.let_go.Goals as goal

pub returns-clause-aloft : goal.returns-clause-aloft
returns-clause-aloft g c = last_leaves c.args.seat.now.aloft c.drop_flight.new.seat.aloft [] c.args.flight c.drop_flight.ensures.aloft c.requires.own
