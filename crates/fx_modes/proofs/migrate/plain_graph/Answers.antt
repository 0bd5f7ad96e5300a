use Rattle.std.proofs.lemmas.Result.{err_from_is_err_and}
use Rattle.fx_modes.specs.Graphs.{file_shown}
use Rattle.fx_modes.proofs.GraphLemmas.{not_raw, raw_then}
use Rattle.fx_modes.proofs.MigrateLemmas.{plain_is, refused, slashed}
use Rattle.fx_modes.proofs.migrate.plain_graph.Goals as goal

pub returns-in_err-raw-clause-refused : goal.returns-in_err-raw-clause-refused
returns-in_err-raw-clause-refused c =
    let p = err_from_is_err_and c.from_residual.result c.from_residual.ensures.1 in
    rw (p.1, p.2) (refused c.args.bytes.now _ (λ some. not_raw c.args.bytes.now _ (c.in_err-raw.ensures.refused some)))

pub returns-in_err-file-clause-refused : goal.returns-in_err-file-clause-refused
returns-in_err-file-clause-refused c =
    let p = err_from_is_err_and c.from_residual-in_err-file.result c.from_residual-in_err-file.ensures.1 in
    rw (p.1, p.2) (refused c.args.bytes.now _
    (λ some. raw_then c.args.bytes.now c.in_ok-raw.raw _ c.in_ok-raw.ensures.ok (c.in_err-file.ensures.refused some)))

pub returns-in_err-named-clause-refused : goal.returns-in_err-named-clause-refused
returns-in_err-named-clause-refused c =
    let p = err_from_is_err_and c.from_residual-in_err-named.result c.from_residual-in_err-named.ensures.1 in
    rw (p.1, p.2) (slashed c.args.bytes.now c.in_ok-raw.raw (file_shown c.in_ok-file.file) _ c.in_ok-raw.ensures.ok
    (raw_then c.args.bytes.now c.in_ok-raw.raw _ c.in_ok-raw.ensures.ok c.in_ok-file.ensures.ok) c.in_err-named.ensures.err)

pub returns-clause-ok : goal.returns-clause-ok
returns-clause-ok c =
    plain_is c.args.bytes.now c.in_ok-raw.raw (file_shown c.in_ok-file.file) c.in_ok-raw.ensures.ok c.in_ok-file.ensures.ok
    c.in_ok-named.ensures.ok c.check_names-named.ensures.few
    (raw_then c.args.bytes.now c.in_ok-raw.raw _ c.in_ok-raw.ensures.ok c.in_ok-file.ensures.ok)
