use Rattle.fx_actions.proofs.AskingLemmas.{number_put, others_stay, takes_number}
use Rattle.fx_actions.proofs.asking.renew_one.Goals as goal

pub overwrite-requires-clause-taken : goal.overwrite-requires-clause-taken
overwrite-requires-clause-taken c =
    takes_number c.args.set.now c.args.name.now c.args.kind c.args.held.now c.args.i _ c.requires.held c.requires.number c.requires.inside

pub returns-clause-held : goal.returns-clause-held
returns-clause-held c =
    number_put c.args.set.now c.overwrite.new.set c.args.name.now c.args.kind c.args.held.now c.args.i _ c.requires.held c.requires.number c.requires.inside c.in_ok-overwrite.ensures.put

pub returns-clause-rest : goal.returns-clause-rest
returns-clause-rest c =
    others_stay c.args.set.now c.overwrite.new.set c.args.name.now c.args.kind c.args.held.now c.args.i _ c.requires.held c.requires.number c.in_ok-overwrite.ensures.put
