use Rattle.std.proofs.Common.{◌∙◌, ap}
use Rattle.fx_outside.specs.Outside.{Files}
use Rattle.fx_modes.proofs.MadeLemmas.{made_found}
use Rattle.fx_modes.proofs.bench.made_of.Goals as goal

pub returns-clause-ok : goal.returns-clause-ok
returns-clause-ok c = λ name. ap (λ (f : Files). f name) c.new.ensures ∙ made_found c.in_ok-files.files.items c.args.word.now c.in_ok-files.ensures name
