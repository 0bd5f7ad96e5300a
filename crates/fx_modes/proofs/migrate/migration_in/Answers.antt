use Rattle.std.proofs.lemmas.Result.{err_from_is_err_and}
use Rattle.fx_modes.specs.Graphs.{file_shown}
use Rattle.fx_modes.proofs.MigrateLemmas.{migration_is, unvalued}
use Rattle.fx_modes.proofs.migrate.migration_in.Goals as goal

pub returns-in_err-text-clause-refused : goal.returns-in_err-text-clause-refused
returns-in_err-text-clause-refused c =
    let p = err_from_is_err_and c.from_residual-in_err-text.result c.from_residual-in_err-text.ensures.1 in
    rw (p.1, p.2) (unvalued c.args.bytes.now (file_shown c.in_ok-file.file) _ c.in_ok-file.ensures.ok.is c.in_err-text.ensures.err)

pub returns-clause-ok : goal.returns-clause-ok
returns-clause-ok c =
    migration_is c.args.bytes.now _ (file_shown c.in_ok-file.file) _ c.in_ok-file.ensures.ok c.node_count.ensures
    c.in_ok-text.ensures.text c.in_ok-text.ensures.same
