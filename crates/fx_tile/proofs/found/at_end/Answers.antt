use Rattle.std.proofs.Common.{refl}
use Rattle.fx_tile.specs.Kept.{made_of}
use Rattle.fx_tile.proofs.WindowLemmas.{rises}
use Rattle.fx_tile.proofs.found.at_end.Goals as goal

pub returns-clause-rises : goal.returns-clause-rises
returns-clause-rises g c =
    rises g.E.ImageEffect.meaning c.args.setup.now (made_of c.args.seat.now) (made_of c.tile_for.new.seat) (record { landed = 0; hits = 0 }) c.tile_for.new.sum
    c.count_of-count.result c.args.end refl c.in_ok-image.ensures.follows c.count_of-count.ensures.landed c.count_of-count.ensures.hits c.in_ok-image.ensures.found c.count_of-count.ensures.end
