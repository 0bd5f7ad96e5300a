use Rattle.std.proofs.Common.{[]}
use Rattle.fx_directory.proofs.CallerLemmas.{last_leaves}
use Rattle.fx_speed.proofs.shared.let_go.Goals as goal

pub returns-clause-idle : goal.returns-clause-idle
returns-clause-idle g c = last_leaves c.args.seat.now.aloft c.drop_flight.new.seat.aloft [] c.args.flight c.drop_flight.ensures.aloft c.requires.one
