use Rattle.std.proofs.Common.{sym, rules, ◌∙◌}
use Rattle.clap.specs.Matches.{found_of}
use Rattle.clap.proofs.WalkLemmas.{first_value-rows}
use Rattle.fx_words.proofs.words.word_in.Goals as goal

pub returns-in-Some-clause-ok : goal.returns-in-Some-clause-ok
returns-in-Some-clause-ok c = sym (first_value-rows (found_of c.args.matches.now) c.args.id.now) ∙ search rules

pub returns-in-None-clause-err : goal.returns-in-None-clause-err
returns-in-None-clause-err c _ = sym (first_value-rows (found_of c.args.matches.now) c.args.id.now) ∙ search rules
