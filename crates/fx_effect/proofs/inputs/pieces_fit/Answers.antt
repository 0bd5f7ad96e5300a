use Rattle.fx_effect.proofs.FitLaws.{first_fits}
use Rattle.fx_effect.proofs.inputs.pieces_fit.Goals as goal

pub returns : goal.returns
returns c depth components t = first_fits c.args.pieces.now depth components t c.requires
