use Rattle.fx_tile.proofs.FoundLemmas.{ends_found}
use Rattle.fx_tile.proofs.laws.ends_are_found.Goals as goal

pub returns : goal.returns
returns c nodes ok n t r few = ends_found nodes ok n t r few
