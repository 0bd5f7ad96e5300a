-- How a check ends.
use Rattle.std.proofs.Common.{◌≡◌, ℕ, List, [], length, Ok, Some, refl, sym, ap, subst, ◌∙◌}
use Rattle.fx_outside.specs.Outside.{Files}
use Rattle.fx_seq.specs.Filling.{IsQuiet}
use Rattle.fx_words.specs.Ordered.{Ordered}
use Rattle.fx_words.specs.Texts.{check_text}
use Rattle.fx_words.specs.declared.order.Mode.TheVariants as mode
use Rattle.fx_words.specs.declared.fault.RunFault.TheVariants as run
use Rattle.fx_modes.specs.declared.graph.GraphFailure.{GraphFailure}
use Rattle.fx_modes.specs.declared.graph.GraphFailure.TheVariants as graph
use Rattle.fx_modes.specs.declared.report.ReportFailure.{ReportFailure}
use Rattle.fx_modes.specs.declared.report.ReportFailure.TheVariants as report
use Rattle.fx_modes.specs.Graphs.{FileShown, Graph, graph_under, first_of, last_of, frame_count}
use Rattle.fx_modes.specs.Reels.{moments_in, ordered_file, plain_reel, takes_for}
use Rattle.fx_modes.specs.Run.{Job}
use Rattle.fx_modes.specs.Check.{check_report}
use Rattle.fx_modes.specs.Ended.{Ended, calls}
use Rattle.fx_modes.specs.Steps.{graph_fault, report_fault, BeginsReport, GraphCause, GraphFetch, ReportRose, WantsAsMany}
use Rattle.fx_modes.proofs.StepsLemmas.{no_call, untouched}
use Rattle.fx_modes.proofs.ReelLemmas.{alone_many, plain_of}

-- the job that is checked
abbrev check_job : (library : Files) (order : Ordered) (file : FileShown) (a b count : ℕ)
    → graph_under library order.graph ≡ Some (Ok file) → takes_for order.mode file.takes ≡ []
    → a ≡ first_of file.graph order → b ≡ last_of file.graph order → WantsAsMany (plain_reel order.scale (ordered_file order file).graph a b) count → Job (Some order) library
check_job library order file a b count there none first last wants =
    record {
      order = order;
      ordered = refl;
      file = file;
      there = there;
      reel = plain_reel order.scale (ordered_file order file).graph a b;
      is = plain_of order file none a b first last;
      uses = wants.0;
      are = wants.1;
    }

-- its report
check_is : (library : Files) (order : Ordered) (file : FileShown) (a b nodes frames count : ℕ)
    → (there : graph_under library order.graph ≡ Some (Ok file)) → (none : takes_for order.mode file.takes ≡ [])
    → (first : a ≡ first_of file.graph order) → (last : b ≡ last_of file.graph order)
    → (wants : WantsAsMany (plain_reel order.scale (ordered_file order file).graph a b) count) → nodes ≡ length (ordered_file order file).graph.nodes → frames ≡ frame_count a b
    → check_text nodes frames count ≡ check_report (check_job library order file a b count there none first last wants)
check_is library order file a b nodes frames count there none first last wants are many =
    let h = (ordered_file order file).graph in
    let reel = plain_reel order.scale h a b in
    let moments : frames ≡ moments_in reel = many ∙ sym (alone_many order.scale h a (frame_count a b)) in
    ap (λ n. check_text n frames count) are
    ∙ ap (λ n. check_text (length h.nodes) n count) moments
    ∙ ap (λ n. check_text (length h.nodes) (moments_in reel) n) wants.2

-- both, of the graph that was counted
pub checked : (library : Files) (order : Ordered) (file : FileShown) (g : Graph) (a b nodes frames count : ℕ)
    → graph_under library order.graph ≡ Some (Ok file) → takes_for order.mode file.takes ≡ [] → g ≡ (ordered_file order file).graph
    → a ≡ first_of g order → b ≡ last_of g order → WantsAsMany (plain_reel order.scale g a b) count → nodes ≡ length g.nodes
    → frames ≡ frame_count a b → (job : Job (Some order) library) × (check_text nodes frames count ≡ check_report job)
checked library order file g a b nodes frames count there none same first last wants are many =
    let from : a ≡ first_of file.graph order = first ∙ ap (λ (s : Graph). first_of s order) same in
    let to : b ≡ last_of file.graph order = last ∙ ap (λ (s : Graph). last_of s order) same in
    let wanted : WantsAsMany (plain_reel order.scale (ordered_file order file).graph a b) count =
    subst (λ (s : Graph). WantsAsMany (plain_reel order.scale s a b) count) same wants in (
      check_job library order file a b count there none from to wanted,
      check_is library order file a b nodes frames count there none from to wanted
          (are ∙ ap (λ (s : Graph). length s.nodes) same) many,
    )

module _ {l o : Type 0} (order : Ordered) (library depot : Files) (p : ℕ) (q : List ℕ) where
  pub graph_ended : (a b : ℕ) (x y : List ℕ) (w : ℕ) (out : List ℕ) (e : GraphFailure) → (l → GraphCause library order.graph e)
      → GraphFetch order.graph a b x y e
      → Ended (Some mode.Check) l (Unit {0}) o (Some order) library (calls a b x y) (calls p p q q) (w, w) (depot, depot) (out, out) (graph_fault e)
  graph_ended a b x y w out (graph.Read other) cause fetch =
      record {
        moment = 0;
        rose = (fetch.0, fetch.1);
        cause = (order, refl, fetch.2);
        leaves = λ one two. untouched depot;
        tells = λ one. refl;
        fetched = tt;
        put = no_call p q;
        wrote = refl;
        usage = λ is. absurd cc;
      }
  graph_ended a b x y w out (graph.Refused code path) cause fetch =
      record {
        moment = 0;
        rose = tt;
        cause = λ one. record { order = order; ordered = refl; refused = cause one };
        leaves = λ one two. untouched depot;
        tells = λ one. refl;
        fetched = fetch;
        put = no_call p q;
        wrote = refl;
        usage = λ is. absurd cc;
      }
  graph_ended a b x y w out graph.Memory cause fetch =
      record {
        moment = 0;
        rose = tt;
        cause = tt;
        leaves = λ one two. untouched depot;
        tells = λ one. refl;
        fetched = tt;
        put = no_call p q;
        wrote = refl;
        usage = λ is. absurd cc;
      }

  -- memory was wanting before the report
  pub memory_ended : (a b : ℕ) (x y : List ℕ) (w : ℕ) (out : List ℕ)
      → Ended (Some mode.Check) l (Unit {0}) o (Some order) library (calls a b x y) (calls p p q q) (w, w) (depot, depot) (out, out) run.Memory
  memory_ended a b x y w out =
      record {
        moment = 0;
        rose = tt;
        cause = tt;
        leaves = λ one two. untouched depot;
        tells = λ one. refl;
        fetched = tt;
        put = no_call p q;
        wrote = refl;
        usage = λ is. absurd cc;
      }

  pub report_ended : (nodes frames count : ℕ) (a b : ℕ) (x y : List ℕ) (w z : ℕ) (out more : List ℕ) (e : ReportFailure)
      → (l → (job : Job (Some order) library) × (check_text nodes frames count ≡ check_report job)) → IsQuiet a b x y → ReportRose w z e
      → (o → BeginsReport (check_text nodes frames count) e out more)
      → Ended (Some mode.Check) l (Unit {0}) o (Some order) library (calls a b x y) (calls p p q q) (w, z) (depot, depot) (out, more) (report_fault e)
  report_ended nodes frames count a b x y w z out more report.Report own quiet rose begins =
      record {
        moment = 0;
        rose = rose;
        cause = λ one. (own one).0;
        leaves = λ one two. untouched depot;
        tells = λ one. (nodes, frames, count, begins one, own);
        fetched = quiet;
        put = no_call p q;
        wrote = tt;
        usage = λ is. absurd cc;
      }
  report_ended nodes frames count a b x y w z out more report.Memory own quiet rose begins =
      record {
        moment = 0;
        rose = tt;
        cause = tt;
        leaves = λ one two. untouched depot;
        tells = λ one. begins one;
        fetched = tt;
        put = no_call p q;
        wrote = rose;
        usage = λ is. absurd cc;
      }
