use Rattle.std.proofs.Common.{ap}
use Rattle.fx_pool.proofs.Keeps.{opens}
use Rattle.fx_pool.proofs.draw.Draw.open.Goals as goal

pub new-requires : goal.new-requires
new-requires g c = opens c.args.count _ c.args.slots.items (ap (λ v. v.items) c.of.ensures)
