use Rattle.fx_life.proofs.Lives.{is_lawful}
use Rattle.fx_life.proofs.laws.every_life.Goals as goal

pub returns : goal.returns
returns c = is_lawful
