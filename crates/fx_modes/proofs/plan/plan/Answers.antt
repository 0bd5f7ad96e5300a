use Rattle.std.proofs.Common.{◌≡◌, List, ℕ, Some, Ok, sym, ap, subst}
use mathlib.Core.Path.{fun_ext}
use Rattle.std.proofs.lemmas.Result.{err_from_is_err_and}
use Rattle.fx_outside.specs.Outside.{Files}
use Rattle.fx_seq.proofs.FillingLemmas.{quiet_more}
use Rattle.fx_words.specs.Ordered.{Ordered}
use Rattle.fx_modes.specs.Graphs.{file_shown, graph_under}
use Rattle.fx_modes.specs.Plans.{ArePlansOf}
use Rattle.fx_modes.specs.Steps.{GraphCause, GraphFetch}
use Rattle.fx_modes.proofs.PlanLemmas as end
use Rattle.fx_modes.proofs.plan.plan.Goals as goal

pub plans_of-requires : goal.plans_of-requires
plans_of-requires g c = record { in_mode = c.requires; takes = c.in_ok-file.ensures.takes }

pub returns-in_err-file-clause-ended : goal.returns-in_err-file-clause-ended
returns-in_err-file-clause-ended g c = λ depot faults name.
    let L = g.L.Library in
    let O = g.O.Sink in
    let at : c.order.inside.graph ≡ c.args.order.now.graph = ap (λ (o : Ordered). o.graph) c.order.view_is in
    let e = c.in_err-file.field-0.0 in
    let cause : L.tells → GraphCause (L.file c.args.library.now) c.args.order.now.graph e = λ one.
    subst (λ (n : List ℕ). GraphCause (L.file c.args.library.now) n e) at (c.in_err-file.ensures.cause one) in
    let fetch : GraphFetch c.args.order.now.graph (L.faults c.args.library.now) (L.faults c.graph_of.new.library) (L.last c.args.library.now) (L.last c.graph_of.new.library) e =
    subst (λ (n : List ℕ). GraphFetch n (L.faults c.args.library.now) (L.faults c.graph_of.new.library) (L.last c.args.library.now) (L.last c.graph_of.new.library) e) at c.in_err-file.ensures.fetch in
    let p = err_from_is_err_and c.from_residual.result c.from_residual.ensures.1 in
    rw (p.1, p.2) (end.graph_ended c.args.order.now (L.file c.args.library.now) depot faults name
    (L.faults c.args.library.now) (L.faults c.graph_of.new.library) (L.last c.args.library.now) (L.last c.graph_of.new.library)
    (O.faults c.args.out.now) (O.written c.args.out.now) e cause fetch)

pub returns-in_err-frames-clause-ended : goal.returns-in_err-frames-clause-ended
returns-in_err-frames-clause-ended g c = λ depot faults name.
    let L = g.L.Library in
    let O = g.O.Sink in
    let at : c.order.inside.graph ≡ c.args.order.now.graph = ap (λ (o : Ordered). o.graph) c.order.view_is in
    let same : L.tells → L.file c.graph_of.new.library ≡ L.file c.args.library.now = λ one. fun_ext (c.in_ok-file.ensures.same one) in
    let there : L.tells → graph_under (L.file c.graph_of.new.library) c.args.order.now.graph ≡ Some (Ok (file_shown c.in_ok-file.file)) = λ one.
    subst (λ (f : Files). graph_under f c.args.order.now.graph ≡ Some (Ok (file_shown c.in_ok-file.file))) (sym (same one))
    (subst (λ (n : List ℕ). graph_under (L.file c.args.library.now) n ≡ Some (Ok (file_shown c.in_ok-file.file))) at (c.in_ok-file.ensures.ok one)) in
    let p = err_from_is_err_and c.from_residual-in_err-frames.result c.from_residual-in_err-frames.ensures.1 in
    rw (p.1, p.2) (end.stopped_ended c.args.order.now (L.file c.args.library.now) depot faults name (L.file c.graph_of.new.library)
    (L.faults c.args.library.now) (L.faults c.graph_of.new.library) (L.faults c.plans_of.new.library)
    (L.last c.args.library.now) (L.last c.graph_of.new.library) (L.last c.plans_of.new.library)
    (O.faults c.args.out.now) (O.written c.args.out.now) c.in_err-frames.field-0.0 same c.in_ok-file.ensures.quiet (c.in_err-frames.ensures.stops there))

pub returns-in_err-report_lines-clause-ended : goal.returns-in_err-report_lines-clause-ended
returns-in_err-report_lines-clause-ended g c = λ depot faults name.
    let L = g.L.Library in
    let O = g.O.Sink in
    let at : c.order.inside.graph ≡ c.args.order.now.graph = ap (λ (o : Ordered). o.graph) c.order.view_is in
    let same : L.tells → L.file c.graph_of.new.library ≡ L.file c.args.library.now = λ one. fun_ext (c.in_ok-file.ensures.same one) in
    let there : L.tells → graph_under (L.file c.graph_of.new.library) c.args.order.now.graph ≡ Some (Ok (file_shown c.in_ok-file.file)) = λ one.
    subst (λ (f : Files). graph_under f c.args.order.now.graph ≡ Some (Ok (file_shown c.in_ok-file.file))) (sym (same one))
    (subst (λ (n : List ℕ). graph_under (L.file c.args.library.now) n ≡ Some (Ok (file_shown c.in_ok-file.file))) at (c.in_ok-file.ensures.ok one)) in
    let planned : L.tells → ArePlansOf (Some c.args.order.now) (L.file c.args.library.now) c.in_ok-frames.frames = λ one.
    subst (λ (f : Files). ArePlansOf (Some c.args.order.now) f c.in_ok-frames.frames) (same one) (c.in_ok-frames.ensures.done one (there one)) in
    let p = err_from_is_err_and c.from_residual-in_err-report_lines.result c.from_residual-in_err-report_lines.ensures.1 in
    rw (p.1, p.2) (end.report_ended c.args.order.now (L.file c.args.library.now) depot faults name c.in_ok-frames.frames
    (L.faults c.args.library.now) (L.faults c.plans_of.new.library) (L.last c.args.library.now) (L.last c.plans_of.new.library)
    (O.faults c.args.out.now) (O.faults c.report_lines.new.out) (O.written c.args.out.now) (O.written c.report_lines.new.out)
    c.in_err-report_lines.field-0.0 planned (quiet_more c.in_ok-file.ensures.quiet c.in_ok-frames.ensures.quiet)
    c.in_err-report_lines.ensures.rose (λ told. c.in_err-report_lines.ensures.leaves told))

pub returns-clause-accepted : goal.returns-clause-accepted
returns-clause-accepted g c = λ one.
    let L = g.L.Library in
    let at : c.order.inside.graph ≡ c.args.order.now.graph = ap (λ (o : Ordered). o.graph) c.order.view_is in
    let same : L.tells → L.file c.graph_of.new.library ≡ L.file c.args.library.now = λ one. fun_ext (c.in_ok-file.ensures.same one) in
    let there : L.tells → graph_under (L.file c.graph_of.new.library) c.args.order.now.graph ≡ Some (Ok (file_shown c.in_ok-file.file)) = λ one.
    subst (λ (f : Files). graph_under f c.args.order.now.graph ≡ Some (Ok (file_shown c.in_ok-file.file))) (sym (same one))
    (subst (λ (n : List ℕ). graph_under (L.file c.args.library.now) n ≡ Some (Ok (file_shown c.in_ok-file.file))) at (c.in_ok-file.ensures.ok one)) in
    let planned : L.tells → ArePlansOf (Some c.args.order.now) (L.file c.args.library.now) c.in_ok-frames.frames = λ one.
    subst (λ (f : Files). ArePlansOf (Some c.args.order.now) f c.in_ok-frames.frames) (same one) (c.in_ok-frames.ensures.done one (there one)) in
    (planned one).known

pub returns-clause-told : goal.returns-clause-told
returns-clause-told g c = λ one told.
    let L = g.L.Library in
    let at : c.order.inside.graph ≡ c.args.order.now.graph = ap (λ (o : Ordered). o.graph) c.order.view_is in
    let same : L.tells → L.file c.graph_of.new.library ≡ L.file c.args.library.now = λ one. fun_ext (c.in_ok-file.ensures.same one) in
    let there : L.tells → graph_under (L.file c.graph_of.new.library) c.args.order.now.graph ≡ Some (Ok (file_shown c.in_ok-file.file)) = λ one.
    subst (λ (f : Files). graph_under f c.args.order.now.graph ≡ Some (Ok (file_shown c.in_ok-file.file))) (sym (same one))
    (subst (λ (n : List ℕ). graph_under (L.file c.args.library.now) n ≡ Some (Ok (file_shown c.in_ok-file.file))) at (c.in_ok-file.ensures.ok one)) in
    let planned : L.tells → ArePlansOf (Some c.args.order.now) (L.file c.args.library.now) c.in_ok-frames.frames = λ one.
    subst (λ (f : Files). ArePlansOf (Some c.args.order.now) f c.in_ok-frames.frames) (same one) (c.in_ok-frames.ensures.done one (there one)) in
    (c.in_ok-frames.frames, planned one, c.in_ok-report_lines.ensures.ok told)

pub returns-clause-quiet : goal.returns-clause-quiet
returns-clause-quiet g c = quiet_more c.in_ok-file.ensures.quiet c.in_ok-frames.ensures.quiet
