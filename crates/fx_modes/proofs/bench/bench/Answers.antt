use Rattle.std.proofs.lemmas.Result.{err_from_is_err_and}
use Rattle.fx_words.specs.Texts.{report_text}
use Rattle.fx_modes.proofs.BenchLemmas as end
use Rattle.fx_modes.proofs.bench.bench.Goals as goal

pub returns-in_err-report-clause-ended : goal.returns-in_err-report-clause-ended
returns-in_err-report-clause-ended g c = λ library depot reads puts read put.
    let p = err_from_is_err_and c.from_residual.result c.from_residual.ensures.1 in
    rw (p.1, p.2) (end.making_ended c.args.order.now library depot reads puts read put
    (g.O.Sink.faults c.args.out.now) (g.O.Sink.written c.args.out.now) c.in_err-report.field-0.0 c.in_err-report.ensures.cause)

pub returns-in_err-report_lines-clause-ended : goal.returns-in_err-report_lines-clause-ended
returns-in_err-report_lines-clause-ended g c = λ library depot reads puts read put.
    let p = err_from_is_err_and c.from_residual-in_err-report_lines.result c.from_residual-in_err-report_lines.ensures.1 in
    rw (p.1, p.2) (end.report_ended c.args.order.now library depot reads puts read put (report_text c.in_ok-report.report)
    (g.O.Sink.faults c.args.out.now) (g.O.Sink.faults c.report_lines.new.out) (g.O.Sink.written c.args.out.now) (g.O.Sink.written c.report_lines.new.out)
    c.in_err-report_lines.field-0.0 c.in_ok-report.ensures.ok c.in_err-report_lines.ensures.rose (λ told. c.in_err-report_lines.ensures.leaves told))
