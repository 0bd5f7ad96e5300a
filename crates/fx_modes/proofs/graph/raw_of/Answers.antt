use Rattle.std.proofs.lemmas.Result.{err_from_is_err_and, IfOk-weaker, IfErr-weaker}
use Rattle.fx_modes.proofs.GraphLemmas.{unread, read_then}
use Rattle.fx_modes.proofs.graph.raw_of.Goals as goal

pub returns-in_err-raw-clause-refused : goal.returns-in_err-raw-clause-refused
returns-in_err-raw-clause-refused c =
    let p = err_from_is_err_and c.from_residual.result c.from_residual.ensures.1 in
    rw (p.1, p.2) (λ some. unread c.args.bytes.now _ (c.in_err-raw.ensures.1 some))

pub returns-clause-ok : goal.returns-clause-ok
returns-clause-ok c = IfOk-weaker c.expand.result _ _ (λ g is. read_then c.args.bytes.now c.in_ok-raw.raw _ c.in_ok-raw.ensures.0 is) c.expand.ensures.expanded

pub returns-clause-refused : goal.returns-clause-refused
returns-clause-refused c = IfErr-weaker c.expand.result _ _ (λ e is some. read_then c.args.bytes.now c.in_ok-raw.raw _ c.in_ok-raw.ensures.0 (is some)) c.expand.ensures.refused
