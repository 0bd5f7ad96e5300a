use Rattle.fx_region.proofs.NeedLaws.{needs_suffice}
use Rattle.fx_region.proofs.laws.needs_suffice.Goals as goal

pub returns : goal.returns
returns c nodes ok = needs_suffice nodes ok
