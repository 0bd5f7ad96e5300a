use Rattle.serde_json.specs.View.{view}
use Rattle.fx_text.proofs.MigratedLaws.{same_graph}
use Rattle.fx_text.proofs.migrate.migrated.Goals as goal

pub returns-in_ok-text_in_two-in-Ok-clause-same : goal.returns-in_ok-text_in_two-in-Ok-clause-same
returns-in_ok-text_in_two-in-Ok-clause-same c =
    same_graph c.args.bytes.now _ (view c.in-Ok.value) c.in-Ok.ensures.ok c.in_ok-text_in_two-in-Ok.ensures.reads
