use Rattle.std.proofs.Common.{◌≤◌, rules, sym, subst}
use Rattle.serde_json.specs.Data.{depth}
use Rattle.serde_json.specs.Read.{max_depth}
use Rattle.serde_json.specs.View.{view}
use Rattle.fx_text.proofs.MigratedLaws.{two_is, depth-in_format_two}
use Rattle.fx_text.proofs.migrate.in_format_two.Goals as goal

pub returns-in_ok-insert-in-Object-clause-value : goal.returns-in_ok-insert-in-Object-clause-value
returns-in_ok-insert-in-Object-clause-value c =
    two_is c.in-Object.members c.insert.new.self c.in_ok-key-in-Object.key c.from.result c.args.value (search rules) (search rules) (search rules) (search rules)

pub returns-in_ok-insert-in-Object-clause-deep : goal.returns-in_ok-insert-in-Object-clause-deep
returns-in_ok-insert-in-Object-clause-deep c =
    subst (λ d. depth d ≤ max_depth) (sym (returns-in_ok-insert-in-Object-clause-value c)) (depth-in_format_two (view c.args.value) max_depth c.requires)
