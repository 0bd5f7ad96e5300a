use Rattle.std.proofs.Common.{◌≡◌, ◌+◌, ◌*◌, ◌∙◌, ℕ, List, length, Some, Ok, subst, ap, sym, arith, mul-le-mul_right}
use mathlib.Core.Path.{fun_ext}
use Rattle.std.proofs.lemmas.Result.{err_from_is_err_and}
use Rattle.fx_outside.specs.Outside.{Files}
use Rattle.fx_seq.proofs.FillingLemmas.{quiet_more}
use Rattle.fx_scene.specs.Scenes.{graph_shown}
use Rattle.fx_tile.specs.declared.count.TileCount.{TileCount}
use Rattle.fx_words.specs.Ordered.{Ordered}
use Rattle.fx_words.specs.Texts.{report_text}
use Rattle.fx_words.specs.declared.order.Mode.{Mode}
use Rattle.fx_modes.specs.Graphs.{FileShown, Graph, file_shown, first_of, frame_count, graph_under, last_of}
use Rattle.fx_modes.specs.Moments.{HasRendered}
use Rattle.fx_modes.specs.Reels.{takes_for}
use Rattle.fx_modes.specs.Run.{IsRenderReport}
use Rattle.fx_modes.specs.Steps.{BeginsReport, GraphCause, GraphFetch}
use Rattle.fx_modes.specs.Tiles.{report_of}
use Rattle.fx_modes.proofs.CountLemmas.{render_is}
use Rattle.fx_modes.proofs.RenderLemmas as end
use Rattle.fx_modes.proofs.render.render.Goals as goal

-- so many takes are asked for
takes_are : (file : FileShown) (order : Ordered) (m : Mode) (takes : ℕ) → m ≡ order.mode → takes ≡ length (takes_for m file.takes) + 1
    → takes ≡ length (takes_for order.mode file.takes) + 1
takes_are file order m takes same is = is ∙ ap (λ (o : Mode). length (takes_for o file.takes) + 1) same

-- and so many frames of each
frames_are : (g : Graph) (order : Ordered) (takes a b n : ℕ) → n ≡ frame_count a b → a ≡ first_of g order → b ≡ last_of g order
    → takes * n ≡ takes * frame_count (first_of g order) (last_of g order)
frames_are g order takes a b n is first last =
    ap (λ m. takes * m) (is ∙ ap (λ m. frame_count m b) first ∙ ap (λ m. frame_count (first_of g order) m) last)

-- what was rendered from the library as it is once the graph is read was rendered from it as it was
rendered_from : {tells : Type 0} (order : Ordered) (library mid old new : Files) (count : TileCount) → mid ≡ library
    → HasRendered tells (Some order) mid old new count → HasRendered tells (Some order) library old new count
rendered_from {tells} order library mid old new count same r =
    subst (λ (f : Files). HasRendered tells (Some order) f old new count) same r

pub overflow_mul-frames : goal.overflow_mul-frames
overflow_mul-frames g c =
    let takes = mul-le-mul_right c.frame_count.result c.take_count-takes.ensures.few in
    let frames = c.frame_count.ensures in
    let low = c.last_of.ensures.small in
    omega (arith, takes, frames, low)

pub returns-in_err-file-clause-ended : goal.returns-in_err-file-clause-ended
returns-in_err-file-clause-ended g c =
    let L = g.L.Library in
    let at : c.order.inside.graph ≡ c.args.order.now.graph = ap (λ (o : Ordered). o.graph) c.order.view_is in
    let e = c.in_err-file.field-0.0 in
    let cause : L.tells → GraphCause (L.file c.args.library.now) c.args.order.now.graph e = λ one.
    subst (λ (n : List ℕ). GraphCause (L.file c.args.library.now) n e) at (c.in_err-file.ensures.cause one) in
    let fetch : GraphFetch c.args.order.now.graph (L.faults c.args.library.now) (L.faults c.graph_of.new.library) (L.last c.args.library.now) (L.last c.graph_of.new.library) e =
    subst (λ (n : List ℕ). GraphFetch n (L.faults c.args.library.now) (L.faults c.graph_of.new.library) (L.last c.args.library.now) (L.last c.graph_of.new.library) e) at c.in_err-file.ensures.fetch in
    let p = err_from_is_err_and c.from_residual.result c.from_residual.ensures.1 in
    rw (p.1, p.2) (end.graph_ended c.args.order.now (L.file c.args.library.now)
    (L.faults c.args.library.now) (L.faults c.graph_of.new.library) (L.last c.args.library.now) (L.last c.graph_of.new.library)
    (g.D.Depot.faults c.args.depot.now) (g.D.Depot.last c.args.depot.now) (g.O.Sink.faults c.args.out.now)
    (g.D.Depot.file c.args.depot.now) (g.O.Sink.written c.args.out.now) e cause fetch)

pub returns-in_err-count-clause-ended : goal.returns-in_err-count-clause-ended
returns-in_err-count-clause-ended g c =
    let L = g.L.Library in
    let D = g.D.Depot in
    let at : c.order.inside.graph ≡ c.args.order.now.graph = ap (λ (o : Ordered). o.graph) c.order.view_is in
    let same : L.tells → L.file c.graph_of.new.library ≡ L.file c.args.library.now = λ one. fun_ext (c.in_ok-file.ensures.same one) in
    let there : L.tells → graph_under (L.file c.graph_of.new.library) c.args.order.now.graph ≡ Some (Ok (file_shown c.in_ok-file.file)) = λ one.
    subst (λ (f : Files). graph_under f c.args.order.now.graph ≡ Some (Ok (file_shown c.in_ok-file.file))) (sym (same one))
    (subst (λ (n : List ℕ). graph_under (L.file c.args.library.now) n ≡ Some (Ok (file_shown c.in_ok-file.file))) at (c.in_ok-file.ensures.ok one)) in
    let p = err_from_is_err_and c.from_residual-in_err-count.result c.from_residual-in_err-count.ensures.1 in
    rw (p.1, p.2) (end.stopped_ended c.args.order.now (L.file c.args.library.now) (L.file c.graph_of.new.library)
    (L.faults c.args.library.now) (L.faults c.graph_of.new.library) (L.faults c.put_moments.new.library)
    (L.last c.args.library.now) (L.last c.graph_of.new.library) (L.last c.put_moments.new.library)
    (D.faults c.args.depot.now) (D.faults c.put_moments.new.depot) (D.last c.args.depot.now) (D.last c.put_moments.new.depot)
    (g.O.Sink.faults c.args.out.now) (D.file c.args.depot.now) (D.file c.put_moments.new.depot) (g.O.Sink.written c.args.out.now)
    c.in_err-count.field-0.0 same c.in_ok-file.ensures.quiet (c.in_err-count.ensures.stops there))

pub returns-in_err-report_frames-clause-ended : goal.returns-in_err-report_frames-clause-ended
returns-in_err-report_frames-clause-ended g c =
    let L = g.L.Library in
    let D = g.D.Depot in
    let at : c.order.inside.graph ≡ c.args.order.now.graph = ap (λ (o : Ordered). o.graph) c.order.view_is in
    let there : L.tells → graph_under (L.file c.args.library.now) c.args.order.now.graph ≡ Some (Ok (file_shown c.in_ok-file.file)) = λ one.
    subst (λ (n : List ℕ). graph_under (L.file c.args.library.now) n ≡ Some (Ok (file_shown c.in_ok-file.file))) at (c.in_ok-file.ensures.ok one) in
    let same : L.tells → L.file c.graph_of.new.library ≡ L.file c.args.library.now = λ one. fun_ext (c.in_ok-file.ensures.same one) in
    let made : L.tells → HasRendered D.tells (Some c.args.order.now) (L.file c.args.library.now) (D.file c.args.depot.now) (D.file c.put_moments.new.depot) c.in_ok-count.count = λ one.
    rendered_from c.args.order.now (L.file c.args.library.now) (L.file c.graph_of.new.library) (D.file c.args.depot.now) (D.file c.put_moments.new.depot) c.in_ok-count.count (same one)
    (c.in_ok-count.ensures.done one (subst (λ (f : Files). graph_under f c.args.order.now.graph ≡ Some (Ok (file_shown c.in_ok-file.file))) (sym (same one)) (there one))) in
    let mode : c.order.inside.mode ≡ c.args.order.now.mode = ap (λ (o : Ordered). o.mode) c.order.view_is in
    let takes = takes_are (file_shown c.in_ok-file.file) c.args.order.now c.order.inside.mode c.take_count-takes.result mode c.take_count-takes.ensures.count in
    let frames = frames_are (graph_shown c.in_ok-file.file.graph) c.args.order.now c.take_count-takes.result c.first_of.result c.last_of.result c.frame_count.result
    c.frame_count.ensures c.first_of.ensures.value c.last_of.ensures.value in
    let p = err_from_is_err_and c.from_residual-in_err-report_frames.result c.from_residual-in_err-report_frames.ensures.1 in
    let begins = λ (told : g.O.Sink.tells). subst (λ (m : Mode). BeginsReport (report_text (report_of m c.take_count-takes.result (c.take_count-takes.result * c.frame_count.result) c.in_ok-count.count))
    c.in_err-report_frames.field-0.0 (g.O.Sink.written c.args.out.now) (g.O.Sink.written c.report_frames.new.out)) mode (c.in_err-report_frames.ensures.leaves told) in
    rw (p.1, p.2) (end.report_ended c.args.order.now (L.file c.args.library.now) (file_shown c.in_ok-file.file) c.take_count-takes.result (c.take_count-takes.result * c.frame_count.result) c.in_ok-count.count
    (L.faults c.args.library.now) (L.faults c.put_moments.new.library) (L.last c.args.library.now) (L.last c.put_moments.new.library)
    (D.faults c.args.depot.now) (D.faults c.put_moments.new.depot) (D.last c.args.depot.now) (D.last c.put_moments.new.depot)
    (g.O.Sink.faults c.args.out.now) (g.O.Sink.faults c.report_frames.new.out) (D.file c.args.depot.now) (D.file c.put_moments.new.depot)
    (g.O.Sink.written c.args.out.now) (g.O.Sink.written c.report_frames.new.out) c.in_err-report_frames.field-0.0
    there takes frames made (quiet_more c.in_ok-file.ensures.quiet c.in_ok-count.ensures.quiet_library) c.in_ok-count.ensures.quiet_depot
    c.in_err-report_frames.ensures.rose begins)

pub returns-clause-accepted : goal.returns-clause-accepted
returns-clause-accepted g c = λ one.
    let L = g.L.Library in
    let D = g.D.Depot in
    let at : c.order.inside.graph ≡ c.args.order.now.graph = ap (λ (o : Ordered). o.graph) c.order.view_is in
    let there : L.tells → graph_under (L.file c.args.library.now) c.args.order.now.graph ≡ Some (Ok (file_shown c.in_ok-file.file)) = λ one.
    subst (λ (n : List ℕ). graph_under (L.file c.args.library.now) n ≡ Some (Ok (file_shown c.in_ok-file.file))) at (c.in_ok-file.ensures.ok one) in
    let same : L.tells → L.file c.graph_of.new.library ≡ L.file c.args.library.now = λ one. fun_ext (c.in_ok-file.ensures.same one) in
    let made : L.tells → HasRendered D.tells (Some c.args.order.now) (L.file c.args.library.now) (D.file c.args.depot.now) (D.file c.put_moments.new.depot) c.in_ok-count.count = λ one.
    rendered_from c.args.order.now (L.file c.args.library.now) (L.file c.graph_of.new.library) (D.file c.args.depot.now) (D.file c.put_moments.new.depot) c.in_ok-count.count (same one)
    (c.in_ok-count.ensures.done one (subst (λ (f : Files). graph_under f c.args.order.now.graph ≡ Some (Ok (file_shown c.in_ok-file.file))) (sym (same one)) (there one))) in
    (made one).known

pub returns-clause-done : goal.returns-clause-done
returns-clause-done g c = λ one two.
    let L = g.L.Library in
    let D = g.D.Depot in
    let at : c.order.inside.graph ≡ c.args.order.now.graph = ap (λ (o : Ordered). o.graph) c.order.view_is in
    let there : L.tells → graph_under (L.file c.args.library.now) c.args.order.now.graph ≡ Some (Ok (file_shown c.in_ok-file.file)) = λ one.
    subst (λ (n : List ℕ). graph_under (L.file c.args.library.now) n ≡ Some (Ok (file_shown c.in_ok-file.file))) at (c.in_ok-file.ensures.ok one) in
    let same : L.tells → L.file c.graph_of.new.library ≡ L.file c.args.library.now = λ one. fun_ext (c.in_ok-file.ensures.same one) in
    let made : L.tells → HasRendered D.tells (Some c.args.order.now) (L.file c.args.library.now) (D.file c.args.depot.now) (D.file c.put_moments.new.depot) c.in_ok-count.count = λ one.
    rendered_from c.args.order.now (L.file c.args.library.now) (L.file c.graph_of.new.library) (D.file c.args.depot.now) (D.file c.put_moments.new.depot) c.in_ok-count.count (same one)
    (c.in_ok-count.ensures.done one (subst (λ (f : Files). graph_under f c.args.order.now.graph ≡ Some (Ok (file_shown c.in_ok-file.file))) (sym (same one)) (there one))) in
    end.all_put c.args.order.now (L.file c.args.library.now) (D.file c.args.depot.now) (D.file c.put_moments.new.depot) c.in_ok-count.count (made one) two

pub returns-clause-told : goal.returns-clause-told
returns-clause-told g c = λ one told.
    let L = g.L.Library in
    let D = g.D.Depot in
    let at : c.order.inside.graph ≡ c.args.order.now.graph = ap (λ (o : Ordered). o.graph) c.order.view_is in
    let there : L.tells → graph_under (L.file c.args.library.now) c.args.order.now.graph ≡ Some (Ok (file_shown c.in_ok-file.file)) = λ one.
    subst (λ (n : List ℕ). graph_under (L.file c.args.library.now) n ≡ Some (Ok (file_shown c.in_ok-file.file))) at (c.in_ok-file.ensures.ok one) in
    let same : L.tells → L.file c.graph_of.new.library ≡ L.file c.args.library.now = λ one. fun_ext (c.in_ok-file.ensures.same one) in
    let made : L.tells → HasRendered D.tells (Some c.args.order.now) (L.file c.args.library.now) (D.file c.args.depot.now) (D.file c.put_moments.new.depot) c.in_ok-count.count = λ one.
    rendered_from c.args.order.now (L.file c.args.library.now) (L.file c.graph_of.new.library) (D.file c.args.depot.now) (D.file c.put_moments.new.depot) c.in_ok-count.count (same one)
    (c.in_ok-count.ensures.done one (subst (λ (f : Files). graph_under f c.args.order.now.graph ≡ Some (Ok (file_shown c.in_ok-file.file))) (sym (same one)) (there one))) in
    let mode : c.order.inside.mode ≡ c.args.order.now.mode = ap (λ (o : Ordered). o.mode) c.order.view_is in
    let takes = takes_are (file_shown c.in_ok-file.file) c.args.order.now c.order.inside.mode c.take_count-takes.result mode c.take_count-takes.ensures.count in
    let frames = frames_are (graph_shown c.in_ok-file.file.graph) c.args.order.now c.take_count-takes.result c.first_of.result c.last_of.result c.frame_count.result
    c.frame_count.ensures c.first_of.ensures.value c.last_of.ensures.value in
    let text = λ (m : Mode). report_text (report_of m c.take_count-takes.result (c.take_count-takes.result * c.frame_count.result) c.in_ok-count.count) in
    let is = render_is c.args.order.now (L.file c.args.library.now) (D.file c.args.depot.now) (D.file c.put_moments.new.depot) (file_shown c.in_ok-file.file)
    c.take_count-takes.result (c.take_count-takes.result * c.frame_count.result) c.in_ok-count.count (there one) takes frames (made one) in (
      text c.order.inside.mode,
      subst (λ (m : Mode). IsRenderReport (Some c.args.order.now) (L.file c.args.library.now) (text m)) (sym mode) is,
      c.in_ok-report_frames.ensures.ok told,
    )

pub returns-clause-quiet_library : goal.returns-clause-quiet_library
returns-clause-quiet_library g c = quiet_more c.in_ok-file.ensures.quiet c.in_ok-count.ensures.quiet_library
