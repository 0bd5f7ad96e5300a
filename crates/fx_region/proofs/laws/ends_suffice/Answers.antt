use Rattle.fx_region.proofs.ChoiceLaws.{is_choice}
use Rattle.fx_region.proofs.EndLaws.{ends_suffice}
use Rattle.fx_region.proofs.laws.ends_suffice.Goals as goal

pub returns-clause-shown : goal.returns-clause-shown
returns-clause-shown c nodes ok = ends_suffice nodes ok

pub returns-clause-chosen : goal.returns-clause-chosen
returns-clause-chosen c nodes = is_choice nodes
