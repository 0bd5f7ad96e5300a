-- How a plan ends.
use Rattle.std.proofs.Common.{◌≡◌, ◌≢◌, ◌⊎◌, ◌<◌, inl, inr, arith, ℕ, ℤ, List, [], Option, Some, Ok, refl, sym, subst, ◌∙◌}
use Rattle.fx_outside.specs.Outside.{Files, HasRisen}
use Rattle.fx_seq.specs.Filling.{IsQuiet}
use Rattle.fx_seq.specs.Moments.{moment_refused}
use Rattle.fx_seq.specs.declared.fault.SeqFault.{SeqFault}
use Rattle.fx_seq.specs.declared.fault.SeqFault.TheVariants as seq
use Rattle.fx_seq.specs.declared.used.Use.{Use}
use Rattle.fx_seq.specs.declared.wanted.Wanted.{Wanted}
use Rattle.fx_words.specs.Ordered.{Ordered}
use Rattle.fx_words.specs.Texts.{plan_text}
use Rattle.fx_words.specs.declared.fault.FrameFault.{FrameFault}
use Rattle.fx_words.specs.declared.fault.RunFault.{RunFault}
use Rattle.fx_words.specs.declared.fault.RunFault.TheVariants as run
use Rattle.fx_words.specs.declared.order.Mode.TheVariants as mode
use Rattle.fx_words.specs.declared.plan.PlanFrame.{PlanFrame}
use Rattle.fx_base.specs.declared.limits.TheConstants.{MOST_SIDE}
use Rattle.fx_modes.specs.declared.sources.TheConstants.{MOST_BYTES}
use Rattle.fx_modes.specs.declared.graph.GraphFailure.{GraphFailure}
use Rattle.fx_modes.specs.declared.graph.GraphFailure.TheVariants as graph
use Rattle.fx_modes.specs.declared.report.ReportFailure.{ReportFailure}
use Rattle.fx_modes.specs.declared.report.ReportFailure.TheVariants as report
use Rattle.fx_modes.specs.Ended.{Calls, Ended, calls}
use Rattle.fx_modes.specs.Graphs.{FileShown, Graph, first_of, frame_count, graph_under, last_of}
use Rattle.fx_modes.specs.Files.{AreUsesOf}
use Rattle.fx_modes.specs.Planning.{PlanStops}
use Rattle.fx_modes.specs.Plans.{ArePlansOf, LeavesPlanReport, PlanCause}
use Rattle.fx_modes.specs.Reels.{ordered_file, plain_reel, takes_for}
use Rattle.fx_modes.specs.Run.{Cause, IsAccepted, IsToldAs, Job, LeavesDepot, Rose, count_in}
use Rattle.fx_modes.specs.Sources.{StopsReading}
use Rattle.fx_modes.specs.Steps.{BeginsReport, GraphCause, GraphFetch, IsSourceFault, ReportRose, graph_fault, report_fault}
use Rattle.fx_modes.specs.Texts.{status_of}
use Rattle.fx_modes.proofs.PlanningLemmas.{job, many}
use Rattle.fx_modes.proofs.RenderLemmas.{fetches_since, rose_since}
use Rattle.fx_modes.proofs.StepsLemmas.{no_call, only_memory, same_out, untouched}

-- ---- the frames end early

module _ (tells : Type 0) (order : Ordered) (library : Files) (file : FileShown) (g : Graph) (a b : ℕ) (uses : List Use)
    (there : tells → graph_under library order.graph ≡ Some (Ok file)) (none : takes_for order.mode file.takes ≡ [])
    (same_graph : g ≡ (ordered_file order file).graph) (first : a ≡ first_of g order) (last : b ≡ last_of g order)
    (are : AreUsesOf (plain_reel order.scale g a b) uses) (fetches : Calls) where
  abbrev Stopped : RunFault → Type 0
  Stopped e = PlanStops tells (Some order) library fetches e

  -- what is planned, as the library tells it
  abbrev of : tells → Job (Some order) library
  of told = job order library file g a b uses (there told) none same_graph first last are

  -- memory was wanting
  no_memory : Stopped run.Memory
  no_memory =
      record {
        moment = 0;
        rose = λ puts out. tt;
        cause = λ told. tt;
        fetches = tt;
        ordered = λ same. cc;
        no_report = λ same. cc;
      }

  module _ (fault : SeqFault) (stops : StopsReading tells library uses (frame_count a b) fetches fault) where
    below : (told : tells) → stops.moment < count_in (of told)
    below told =
        let low = stops.low in
        let all = many order library file g a b uses (there told) none same_graph first last are in
        omega (arith, low, all)

    -- a frame is refused
    refused : (name : List ℕ) (t : ℤ) (why : FrameFault) → IsToldAs g fault name t why
        → IsQuiet fetches.before fetches.now fetches.was fetches.last
        → (tells → moment_refused library MOST_SIDE MOST_BYTES uses stops.moment ≡ Some fault) → Stopped (run.Frame name t why)
    refused name t why line quiet here =
        record {
          moment = stops.moment;
          rose = λ puts out. tt;
          cause = λ told. (of told, below told, fault, record { before = stops.before told; here = here told }, line);
          fetches = quiet;
          ordered = λ same. cc;
          no_report = λ same. cc;
        }

  pub stopped : (fault : SeqFault) → StopsReading tells library uses (frame_count a b) fetches fault → (e : RunFault)
      → IsSourceFault g fault e → Stopped e
  stopped (seq.Fetch node t name) stops e same = subst Stopped (sym same) unread
    where
      w : Wanted
      w = record { node = node; frame = t; name = name }

      unread : Stopped (run.Read name)
      unread =
          record {
            moment = stops.moment;
            rose = λ puts out. (stops.not_read.fetch.0, stops.not_read.fetch.1);
            cause = λ told. inr (
              of told,
              below (seq.Fetch node t name) stops told,
              w,
              record { before = stops.before told; here = stops.not_read.first told },
              refl,
            );
            fetches = tt;
            ordered = λ same. cc;
            no_report = λ same. cc;
          }
  stopped (seq.Frame node t why) stops (run.Frame name u line) is =
      refused (seq.Frame node t why) stops name u line is stops.not_read.quiet (λ told. stops.not_read.told told)
  stopped (seq.Frame node t why) stops run.Memory is = no_memory
  stopped (seq.Frame node t why) stops run.Usage is = absurd is
  stopped (seq.Frame node t why) stops (run.Graph code path) is = absurd is
  stopped (seq.Frame node t why) stops (run.Read name) is = absurd is
  stopped (seq.Frame node t why) stops (run.Write name) is = absurd is
  stopped (seq.Frame node t why) stops run.Report is = absurd is
  stopped (seq.TooLarge node t sum) stops (run.Frame name u line) is =
      refused (seq.TooLarge node t sum) stops name u line is stops.not_read.quiet (λ told. stops.not_read.told told)
  stopped (seq.TooLarge node t sum) stops run.Memory is = no_memory
  stopped (seq.TooLarge node t sum) stops run.Usage is = absurd is
  stopped (seq.TooLarge node t sum) stops (run.Graph code path) is = absurd is
  stopped (seq.TooLarge node t sum) stops (run.Read name) is = absurd is
  stopped (seq.TooLarge node t sum) stops (run.Write name) is = absurd is
  stopped (seq.TooLarge node t sum) stops run.Report is = absurd is
  stopped seq.Memory stops e same = subst Stopped (sym same) no_memory

-- before any frame was read
pub stops_at_once : (tells : Type 0) (asked : Option Ordered) (library : Files) (a : ℕ) (x : List ℕ) (e : RunFault) → e ≡ run.Memory
    → PlanStops tells asked library (calls a a x x) e
stops_at_once tells asked library a x e is =
    subst (PlanStops tells asked library (calls a a x x)) (sym is)
    (record {
      moment = 0;
      rose = λ puts out. tt;
      cause = λ told. tt;
      fetches = tt;
      ordered = λ same. cc;
      no_report = λ same. cc;
    })

-- ---- how it ends

not_told : (tells : Type 0) (asked : Option Ordered) (library : Files) (text : List ℕ) (e : RunFault) → e ≢ run.Report
    → LeavesPlanReport tells asked library e text text
not_told tells asked library text run.Usage other = refl
not_told tells asked library text (run.Graph code path) other = refl
not_told tells asked library text (run.Frame node t why) other = refl
not_told tells asked library text (run.Read name) other = refl
not_told tells asked library text (run.Write name) other = refl
not_told tells asked library text run.Memory other = refl
not_told tells asked library text run.Report other = absurd (other refl)

-- no put failed, since none was made
no_put : (e : RunFault) (p : ℕ) (q : List ℕ) → LeavesDepot e p p q q
no_put run.Usage p q = no_call p q
no_put (run.Graph code path) p q = no_call p q
no_put (run.Frame node t why) p q = no_call p q
no_put (run.Read name) p q = no_call p q
no_put (run.Write name) p q = tt
no_put run.Memory p q = no_call p q
no_put run.Report p q = no_call p q

-- of another library that is the same
cause_from : (tells : Type 0) (asked : Option Ordered) (mid library : Files) (j : ℕ) (e : RunFault) → (tells → mid ≡ library)
    → PlanCause tells asked mid j e → PlanCause tells asked library j e
cause_from tells asked mid library j run.Usage same cause = cause
cause_from tells asked mid library j (run.Graph code path) same cause = λ one.
    subst (λ (f : Files). Cause asked f j (run.Graph code path)) (same one) (cause one)
cause_from tells asked mid library j (run.Frame node t why) same cause = λ one.
    subst (λ (f : Files). Cause asked f j (run.Frame node t why)) (same one) (cause one)
cause_from tells asked mid library j (run.Read name) same cause = λ one.
    subst (λ (f : Files). Cause asked f j (run.Read name)) (same one) (cause one)
cause_from tells asked mid library j (run.Write name) same cause = cause
cause_from tells asked mid library j run.Memory same cause = cause
cause_from tells asked mid library j run.Report same cause = λ one.
    subst (λ (f : Files). Cause asked f j run.Report) (same one) (cause one)

module _ {l o : Type 0} (order : Ordered) (library depot : Files) (p : ℕ) (q : List ℕ) where
  pub graph_ended : (a b : ℕ) (x y : List ℕ) (w : ℕ) (out : List ℕ) (e : GraphFailure) → (l → GraphCause library order.graph e)
      → GraphFetch order.graph a b x y e
      → Ended (Some mode.Plan) l (Unit {0}) o (Some order) library (calls a b x y) (calls p p q q) (w, w) (depot, depot) (out, out) (graph_fault e)
  graph_ended a b x y w out (graph.Read other) cause fetch =
      record {
        moment = 0;
        rose = (fetch.0, fetch.1);
        cause = λ one. inl (order, refl, fetch.2, refl);
        leaves = λ one two. untouched depot;
        tells = λ one. refl;
        fetched = tt;
        put = no_call p q;
        wrote = refl;
        usage = λ is. absurd cc;
      }
  graph_ended a b x y w out (graph.Refused code path) cause fetch =
      record {
        moment = 0;
        rose = tt;
        cause = λ one. record { order = order; ordered = refl; refused = cause one };
        leaves = λ one two. untouched depot;
        tells = λ one. refl;
        fetched = fetch;
        put = no_call p q;
        wrote = refl;
        usage = λ is. absurd cc;
      }
  graph_ended a b x y w out graph.Memory cause fetch =
      record {
        moment = 0;
        rose = tt;
        cause = λ one. tt;
        leaves = λ one two. untouched depot;
        tells = λ one. refl;
        fetched = tt;
        put = no_call p q;
        wrote = refl;
        usage = λ is. absurd cc;
      }

  -- the graph was read, and then the frames ended early
  pub stopped_ended : (mid : Files) (a b c : ℕ) (x y z : List ℕ) (w : ℕ) (out : List ℕ) (e : RunFault) → (l → mid ≡ library)
      → IsQuiet a b x y → PlanStops l (Some order) mid (calls b c y z) e
      → Ended (Some mode.Plan) l (Unit {0}) o (Some order) library (calls a c x z) (calls p p q q) (w, w) (depot, depot) (out, out) e
  stopped_ended mid a b c x y z w out e same quiet s =
      record {
        moment = s.moment;
        rose = rose_since a b c z (p, p, q) (w, w) e quiet.count s.no_report (s.rose (p, p, q) (0, 0));
        cause = cause_from l (Some order) mid library s.moment e same s.cause;
        leaves = λ one two. untouched depot;
        tells = λ one. not_told l (Some order) library out e s.no_report;
        fetched = fetches_since (Some order) a b c x y z e quiet s.fetches;
        put = no_put e p q;
        wrote = same_out w e;
        usage = λ is. absurd (s.ordered is);
      }

  -- all is planned, and then the report was not written
  pub report_ended : (frames : List PlanFrame) (a b : ℕ) (x y : List ℕ) (w z : ℕ) (out more : List ℕ) (e : ReportFailure)
      → (l → ArePlansOf (Some order) library frames) → IsQuiet a b x y → ReportRose w z e
      → (o → BeginsReport (plan_text frames) e out more)
      → Ended (Some mode.Plan) l (Unit {0}) o (Some order) library (calls a b x y) (calls p p q q) (w, z) (depot, depot) (out, more) (report_fault e)
  report_ended frames a b x y w z out more report.Report planned quiet rose begins =
      record {
        moment = 0;
        rose = rose;
        cause = λ one. (planned one).known;
        leaves = λ one two. untouched depot;
        tells = λ one. (frames, begins one, planned);
        fetched = quiet;
        put = no_call p q;
        wrote = tt;
        usage = λ is. absurd cc;
      }
  report_ended frames a b x y w z out more report.Memory planned quiet rose begins =
      record {
        moment = 0;
        rose = tt;
        cause = λ one. tt;
        leaves = λ one two. untouched depot;
        tells = λ one. begins one;
        fetched = tt;
        put = no_call p q;
        wrote = rose;
        usage = λ is. absurd cc;
      }

-- ---- its statuses

-- a plan has no status 5
plan_status : (tells : Type 0) (asked : Option Ordered) (library : Files) (j : ℕ) (e : RunFault) → PlanCause tells asked library j e
    → status_of e ≢ 5
plan_status tells asked library j run.Usage cause = λ is. omega (arith, is)
plan_status tells asked library j (run.Graph code path) cause = λ is. omega (arith, is)
plan_status tells asked library j (run.Frame node t why) cause = λ is. omega (arith, is)
plan_status tells asked library j (run.Read name) cause = λ is. omega (arith, is)
plan_status tells asked library j (run.Write name) cause = absurd cause
plan_status tells asked library j run.Memory cause = λ is. omega (arith, is)
plan_status tells asked library j run.Report cause = λ is. omega (arith, is)

pub plan_answers : (tells : Type 0) (asked : Option Ordered) (library : Files) (j status : ℕ) (e : RunFault)
    → (status ≡ status_of e) ⊎ (status ≡ 6) → PlanCause tells asked library j e → status ≢ 5
plan_answers tells asked library j status e (inl is) cause = λ five. plan_status tells asked library j e cause (sym is ∙ five)
plan_answers tells asked library j status e (inr is) cause = λ five. omega (arith, is, five)

-- the cause is that of a render
pub render_cause : (tells : Type 0) (asked : Option Ordered) (library : Files) (j : ℕ) (e : RunFault) → PlanCause tells asked library j e
    → tells → Cause asked library j e
render_cause tells asked library j run.Usage cause told = cause told
render_cause tells asked library j (run.Graph code path) cause told = cause told
render_cause tells asked library j (run.Frame node t why) cause told = cause told
render_cause tells asked library j (run.Read name) cause told = cause told
render_cause tells asked library j (run.Write name) cause told = absurd cause
render_cause tells asked library j run.Memory cause told = cause told
render_cause tells asked library j run.Report cause told = cause told

-- no put is known to have failed
rose_but : (fetches puts : ℕ × ℕ × List ℕ) (out : ℕ × ℕ) (tells : Type 0) (asked : Option Ordered) (library : Files) (j : ℕ)
    (e : RunFault) → PlanCause tells asked library j e → Rose fetches puts out e → Rose fetches (0, 0, []) out e
rose_but fetches puts out tells asked library j run.Usage cause rose = tt
rose_but fetches puts out tells asked library j (run.Graph code path) cause rose = tt
rose_but fetches puts out tells asked library j (run.Frame node t why) cause rose = tt
rose_but fetches puts out tells asked library j (run.Read name) cause rose = rose
rose_but fetches puts out tells asked library j (run.Write name) cause rose = absurd cause
rose_but fetches puts out tells asked library j run.Memory cause rose = tt
rose_but fetches puts out tells asked library j run.Report cause rose = rose

never : HasRisen 0 0 → ⊥
never (inl low) = omega (arith, low)
never (inr high) = omega (arith, high)

-- where it is accepted and no count rose, want of memory alone ends a plan
pub only_plan_memory : (tells : Type 0) (asked : Option Ordered) (library : Files) (j : ℕ) (fetches puts : ℕ × ℕ × List ℕ) (out : ℕ × ℕ)
    (e : RunFault) → tells → IsAccepted asked library → PlanCause tells asked library j e → Rose fetches puts out e
    → (HasRisen fetches.0 fetches.1 → ⊥) → (HasRisen out.0 out.1 → ⊥) → status_of e ≡ 6
only_plan_memory tells asked library j fetches puts out e told known cause rose fetched wrote =
    only_memory asked library j fetches (0, 0, []) out e known (render_cause tells asked library j e cause told)
    (rose_but fetches puts out tells asked library j e cause rose) fetched never wrote
