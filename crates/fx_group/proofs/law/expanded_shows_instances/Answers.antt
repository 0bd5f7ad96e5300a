use Rattle.fx_group.proofs.NamedLaws.{can_be_named}
use Rattle.fx_group.proofs.ShownLaws.{expanded_shown}
use Rattle.fx_group.proofs.law.expanded_shows_instances.Goals as goal

pub returns-clause-shown : goal.returns-clause-shown
returns-clause-shown g c raw flat ok = expanded_shown g.E.Catalogue.find g.E.ImageEffect.meaning raw flat ok

pub returns-clause-named : goal.returns-clause-named
returns-clause-named g c flat = can_be_named g.E.Catalogue.find g.E.ImageEffect.meaning flat
