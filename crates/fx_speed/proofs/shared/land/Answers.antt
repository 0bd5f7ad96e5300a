use Rattle.std.proofs.Common.{[]}
use Rattle.fx_directory.proofs.CallerLemmas.{last_leaves}
use Rattle.fx_speed.proofs.shared.land.Goals as goal

pub returns-in-Ok-land-clause-idle : goal.returns-in-Ok-land-clause-idle
returns-in-Ok-land-clause-idle g c = last_leaves c.args.seat.now.aloft c.land.new.seat.aloft [] c.args.flight c.in-Ok-land.ensures.aloft c.requires.one
