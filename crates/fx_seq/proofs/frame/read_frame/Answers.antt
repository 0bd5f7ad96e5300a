use Rattle.std.proofs.lemmas.Result.{err_from_is_err_and, IfErr-weaker}
use Rattle.fx_seq.proofs.FillingLemmas.{told_under}
use Rattle.fx_seq.proofs.frame.read_frame.Goals as goal

pub returns-in_err-bytes-clause-refused : goal.returns-in_err-bytes-clause-refused
returns-in_err-bytes-clause-refused g c = λ tells. let p = err_from_is_err_and c.from_residual.result c.from_residual.ensures.1 in rw (p.1, p.2) (λ limit sum. c.in_err-bytes.ensures.no_refusal _)

pub returns-clause-refused : goal.returns-clause-refused
returns-clause-refused g c = λ tells. told_under (g.L.Library.file c.args.library.now) c.args.most_side c.args.wanted.now c.in_ok-bytes.bytes.items c.image_in.result (c.in_ok-bytes.ensures.bytes tells) (rw c.deref.ensures.value at c.image_in.ensures.fault)

pub returns-in_err-bytes-clause-quiet_refusal : goal.returns-in_err-bytes-clause-quiet_refusal
returns-in_err-bytes-clause-quiet_refusal g c = let p = err_from_is_err_and c.from_residual.result c.from_residual.ensures.1 in rw (p.1, p.2) (c.in_err-bytes.ensures.not_quiet _ _ _ _)

pub returns-clause-quiet_refusal : goal.returns-clause-quiet_refusal
returns-clause-quiet_refusal g c = IfErr-weaker c.image_in.result _ _ (λ e at. at _ _ _ _ c.in_ok-bytes.ensures.quiet) c.image_in.ensures.quiet
