use Rattle.std.proofs.Common.{◌≡◌, ◌++◌, ◌∙◌, ℕ, List, [], Some, Ok, subst, ap}
use Rattle.std.proofs.lemmas.Result.{err_from_is_err_and}
use Rattle.fx_scene.specs.Scenes.{graph_shown}
use Rattle.fx_words.specs.Ordered.{Ordered}
use Rattle.fx_words.specs.Texts.{check_text}
use Rattle.fx_words.specs.declared.order.Mode.{Mode}
use Rattle.fx_modes.specs.Check.{check_report}
use Rattle.fx_modes.specs.Graphs.{FileShown, file_shown, graph_under}
use Rattle.fx_modes.specs.Reels.{takes_for}
use Rattle.fx_modes.specs.Run.{Job}
use Rattle.fx_modes.specs.Steps.{GraphCause, GraphFetch}
use Rattle.fx_modes.proofs.CheckLemmas as end
use Rattle.fx_modes.proofs.check.check.Goals as goal

pub returns-in_err-file-clause-ended : goal.returns-in_err-file-clause-ended
returns-in_err-file-clause-ended g c = λ depot faults name.
    let L = g.L.Library in
    let O = g.O.Sink in
    let at : c.order.inside.graph ≡ c.args.order.now.graph = ap (λ (o : Ordered). o.graph) c.order.view_is in
    let e = c.in_err-file.field-0.0 in
    let cause : L.tells → GraphCause (L.file c.args.library.now) c.args.order.now.graph e = λ one.
    subst (λ (n : List ℕ). GraphCause (L.file c.args.library.now) n e) at (c.in_err-file.ensures.cause one) in
    let fetch : GraphFetch c.args.order.now.graph (L.faults c.args.library.now) (L.faults c.graph_of.new.library) (L.last c.args.library.now) (L.last c.graph_of.new.library) e =
    subst (λ (n : List ℕ). GraphFetch n (L.faults c.args.library.now) (L.faults c.graph_of.new.library) (L.last c.args.library.now) (L.last c.graph_of.new.library) e) at c.in_err-file.ensures.fetch in
    let p = err_from_is_err_and c.from_residual.result c.from_residual.ensures.1 in
    rw (p.1, p.2) (end.graph_ended c.args.order.now (L.file c.args.library.now) depot faults name
    (L.faults c.args.library.now) (L.faults c.graph_of.new.library) (L.last c.args.library.now) (L.last c.graph_of.new.library)
    (O.faults c.args.out.now) (O.written c.args.out.now) e cause fetch)

pub returns-in_err-count_wanted-clause-ended : goal.returns-in_err-count_wanted-clause-ended
returns-in_err-count_wanted-clause-ended g c = λ depot faults name.
    let L = g.L.Library in
    let O = g.O.Sink in
    let p = err_from_is_err_and c.from_residual-in_err-count_wanted.result c.from_residual-in_err-count_wanted.ensures.1 in
    rw (p.1, p.2, c.in_err-count_wanted.ensures.err) (end.memory_ended c.args.order.now (L.file c.args.library.now) depot faults name
    (L.faults c.args.library.now) (L.faults c.graph_of.new.library) (L.last c.args.library.now) (L.last c.graph_of.new.library)
    (O.faults c.args.out.now) (O.written c.args.out.now))

pub returns-in_err-report_lines-clause-ended : goal.returns-in_err-report_lines-clause-ended
returns-in_err-report_lines-clause-ended g c = λ depot faults name.
    let L = g.L.Library in
    let O = g.O.Sink in
    let at : c.order.inside.graph ≡ c.args.order.now.graph = ap (λ (o : Ordered). o.graph) c.order.view_is in
    let there : L.tells → graph_under (L.file c.args.library.now) c.args.order.now.graph ≡ Some (Ok (file_shown c.in_ok-file.file)) = λ one.
    subst (λ (n : List ℕ). graph_under (L.file c.args.library.now) n ≡ Some (Ok (file_shown c.in_ok-file.file))) at (c.in_ok-file.ensures.ok one) in
    let none : takes_for c.args.order.now.mode (file_shown c.in_ok-file.file).takes ≡ [] = ap (λ (m : Mode). takes_for m (file_shown c.in_ok-file.file).takes) c.requires in
    let order = c.args.order.now in
    let small = c.ordered-small.ensures.shown in
    let own : L.tells → (job : Job (Some order) (L.file c.args.library.now)) × ((check_text c.node_count.result c.frame_count.result c.in_ok-count_wanted.field-0) ≡ check_report job) = λ one.
    end.checked (L.file c.args.library.now) order (file_shown c.in_ok-file.file) (graph_shown c.ordered-small.result.graph) c.first_of-first.result c.last_of-last.result
    c.node_count.result c.frame_count.result c.in_ok-count_wanted.field-0 (there one) none (ap (λ (f : FileShown). f.graph) small)
    c.first_of-first.ensures.value c.last_of-last.ensures.value (c.in_ok-count_wanted.ensures.ok order.scale) c.node_count.ensures c.frame_count.ensures in
    let p = err_from_is_err_and c.from_residual-in_err-report_lines.result c.from_residual-in_err-report_lines.ensures.1 in
    rw (p.1, p.2) (end.report_ended c.args.order.now (L.file c.args.library.now) depot faults name
    c.node_count.result c.frame_count.result c.in_ok-count_wanted.field-0
    (L.faults c.args.library.now) (L.faults c.graph_of.new.library) (L.last c.args.library.now) (L.last c.graph_of.new.library)
    (O.faults c.args.out.now) (O.faults c.report_lines.new.out) (O.written c.args.out.now) (O.written c.report_lines.new.out)
    c.in_err-report_lines.field-0.0 own c.in_ok-file.ensures.quiet c.in_err-report_lines.ensures.rose (λ told. c.in_err-report_lines.ensures.leaves told))

pub returns-clause-checked : goal.returns-clause-checked
returns-clause-checked g c = λ one.
    let L = g.L.Library in
    let O = g.O.Sink in
    let at : c.order.inside.graph ≡ c.args.order.now.graph = ap (λ (o : Ordered). o.graph) c.order.view_is in
    let there : L.tells → graph_under (L.file c.args.library.now) c.args.order.now.graph ≡ Some (Ok (file_shown c.in_ok-file.file)) = λ one.
    subst (λ (n : List ℕ). graph_under (L.file c.args.library.now) n ≡ Some (Ok (file_shown c.in_ok-file.file))) at (c.in_ok-file.ensures.ok one) in
    let none : takes_for c.args.order.now.mode (file_shown c.in_ok-file.file).takes ≡ [] = ap (λ (m : Mode). takes_for m (file_shown c.in_ok-file.file).takes) c.requires in
    let order = c.args.order.now in
    let small = c.ordered-small.ensures.shown in
    let own : L.tells → (job : Job (Some order) (L.file c.args.library.now)) × ((check_text c.node_count.result c.frame_count.result c.in_ok-count_wanted.field-0) ≡ check_report job) = λ one.
    end.checked (L.file c.args.library.now) order (file_shown c.in_ok-file.file) (graph_shown c.ordered-small.result.graph) c.first_of-first.result c.last_of-last.result
    c.node_count.result c.frame_count.result c.in_ok-count_wanted.field-0 (there one) none (ap (λ (f : FileShown). f.graph) small)
    c.first_of-first.ensures.value c.last_of-last.ensures.value (c.in_ok-count_wanted.ensures.ok order.scale) c.node_count.ensures c.frame_count.ensures in
    (own one).0

pub returns-clause-told : goal.returns-clause-told
returns-clause-told g c = λ one told.
    let L = g.L.Library in
    let O = g.O.Sink in
    let at : c.order.inside.graph ≡ c.args.order.now.graph = ap (λ (o : Ordered). o.graph) c.order.view_is in
    let there : L.tells → graph_under (L.file c.args.library.now) c.args.order.now.graph ≡ Some (Ok (file_shown c.in_ok-file.file)) = λ one.
    subst (λ (n : List ℕ). graph_under (L.file c.args.library.now) n ≡ Some (Ok (file_shown c.in_ok-file.file))) at (c.in_ok-file.ensures.ok one) in
    let none : takes_for c.args.order.now.mode (file_shown c.in_ok-file.file).takes ≡ [] = ap (λ (m : Mode). takes_for m (file_shown c.in_ok-file.file).takes) c.requires in
    let order = c.args.order.now in
    let small = c.ordered-small.ensures.shown in
    let own : L.tells → (job : Job (Some order) (L.file c.args.library.now)) × ((check_text c.node_count.result c.frame_count.result c.in_ok-count_wanted.field-0) ≡ check_report job) = λ one.
    end.checked (L.file c.args.library.now) order (file_shown c.in_ok-file.file) (graph_shown c.ordered-small.result.graph) c.first_of-first.result c.last_of-last.result
    c.node_count.result c.frame_count.result c.in_ok-count_wanted.field-0 (there one) none (ap (λ (f : FileShown). f.graph) small)
    c.first_of-first.ensures.value c.last_of-last.ensures.value (c.in_ok-count_wanted.ensures.ok order.scale) c.node_count.ensures c.frame_count.ensures in
    ((own one).0, c.in_ok-report_lines.ensures.ok told ∙ ap (λ text. O.written c.args.out.now ++ text) (own one).1)
