use Rattle.fx_eval.specs.Setups.{setup_nodes}
use Rattle.fx_eval.proofs.ReaderLemmas.{made_makes, made_whole}
use Rattle.fx_eval.proofs.whole.make.Goals as goal

pub returns-clause-whole : goal.returns-clause-whole
returns-clause-whole g c =
    made_whole (setup_nodes g.E.ImageEffect.meaning c.args.setup.now) c.args.last.now c.args.node_frame c.in_ok-whole.whole c.args.made.now c.insert.new.self c.let_go.new.made
    c.requires.whole c.in_ok-whole.ensures.whole c.in_ok-insert.ensures.updates.0 c.let_go.ensures

pub returns-clause-makes : goal.returns-clause-makes
returns-clause-makes g c =
    made_makes c.args.last.now c.args.node_frame c.in_ok-whole.whole c.args.made.now c.insert.new.self c.let_go.new.made
    c.in_ok-insert.ensures.updates.0 c.in_ok-insert.ensures.updates.1 c.let_go.ensures
