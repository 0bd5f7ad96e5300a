-- What a bench has put, file by file.
use Rattle.std.proofs.Common.{◌≡◌, ◌≢◌, ◌≤◌, ◌<◌, ◌≤ℤ◌, ◌+◌, ◌^◌, ℕ, zero, suc, ℤ, pos, Bool, true, false, List, [], ◌++◌, length, sum, map, inl, inr, Ok, Err, Option, Some, None, refl, sym, ap, ap₂, subst, subst₂, ◌∙◌, arith}
use mathlib.Core.Path.{fun_ext}
use Rattle.std.specs.Prelude.{unwrap_or}
use Rattle.std.specs.List.{flat_map, range_with_len}
use Rattle.std.specs.Str.{bytes_eq}
use Rattle.std.proofs.lemmas.Bool.{false≢true}
use Rattle.std.specs.Int.{int_gap}
use Rattle.std.proofs.lemmas.Int.{ints}
use Rattle.std.proofs.lemmas.Slice.Eq.{bytes_eq-Decides}
use Rattle.fx_base.specs.Pattern.{name_of}
use Rattle.fx_base.proofs.PatternLaws.{name_of-apart}
use Rattle.fx_outside.specs.Outside.{Files, HasRisen}
use Rattle.fx_scene.specs.Scenes.{Images, picture}
use Rattle.fx_proxy.specs.Reduced.{IsScale}
use Rattle.fx_proxy.specs.Scaled.{scaled_graph}
use Rattle.fx_proxy.proofs.ScaledLemmas.{project_stays}
use Rattle.fx_shipped.specs.Shipped.{meaning_of, number_of}
use Rattle.fx_tile.specs.declared.count.TileCount.{TileCount}
use Rattle.fx_graph.specs.Refusal.{refusal}
use Rattle.fx_words.specs.Ordered.{Ordered}
use Rattle.fx_words.specs.Texts.{bench_text}
use Rattle.fx_words.specs.declared.order.Mode.TheVariants as mode
use Rattle.fx_words.specs.declared.fault.RunFault.{RunFault}
use Rattle.fx_words.specs.declared.fault.RunFault.TheVariants as run
use Rattle.fx_modes.specs.declared.graph.GraphFailure.{GraphFailure}
use Rattle.fx_modes.specs.declared.graph.GraphFailure.TheVariants as graph
use Rattle.fx_modes.specs.declared.report.ReportFailure.{ReportFailure}
use Rattle.fx_modes.specs.declared.report.ReportFailure.TheVariants as report
use Rattle.fx_modes.specs.Graphs.{FileShown, Graph, graph_under, first_of, last_of, frame_count}
use Rattle.fx_modes.specs.Reels.{Reel, file_name, file_text, frame_in, graph_in, moments_in, ordered_file, picture_text, plain_reel, scaled_in, takes_for}
use Rattle.fx_modes.specs.Files.{AreImages, HasGained, wanted_of, with_moments}
use Rattle.fx_modes.specs.Run.{Cause, IsAccepted, LeavesDepot, LeavesLibrary, Rose, count_in}
use Rattle.fx_modes.specs.Bench.{BenchCause, LeavesBenchReport, bytes_of, made_of, IsBenchReport}
use Rattle.fx_modes.specs.Ended.{Ended, calls}
use Rattle.fx_modes.specs.Moments.{HasRendered, Stops}
use Rattle.fx_modes.specs.Steps.{graph_fault, report_fault, BeginsReport, GraphCause, GraphFetch, HasFiles, IsMakingFault, ReportRose, bytes_under, AreShort}
use Rattle.fx_modes.proofs.StepsLemmas.{both, no_call, same_out, untouched}
use Rattle.fx_modes.proofs.JobLemmas.{reel_here}
use Rattle.fx_modes.proofs.ReelLemmas.{alone, alone_many, alone_name, plain_is}
use Rattle.fx_modes.proofs.LengthLemmas.{short_text}

abbrev no_files : Files
no_files name = None

nothing : (most : ℕ) → length {A = ℕ} [] ≤ most
nothing most = omega arith

module _ (r : Reel) (images : Images) where
  -- each of the first n moments has its file, where no other has its name
  found : (n j : ℕ) (files : Files) → ((k m : ℕ) → k < n → m < n → file_name r k ≡ file_name r m → k ≡ m) → j < n
      → with_moments r images n files (file_name r j) ≡ Some (file_text r images j)
  found zero j files apart low = absurd (omega (arith, low))
  found (suc n) j files apart low =
      by (bytes_eq (file_name r n) (file_name r j)) refl
      (λ below. found n j files (λ k m k_low m_low same. apart k m (omega (arith, k_low)) (omega (arith, m_low)) same) below)
    where
      by : (b : Bool) → bytes_eq (file_name r n) (file_name r j) ≡ b
          → (j < n → with_moments r images n files (file_name r j) ≡ Some (file_text r images j))
          → with_moments r images (suc n) files (file_name r j) ≡ Some (file_text r images j)
      by true e before =
          let same : n ≡ j = apart n j (omega arith) low ((bytes_eq-Decides (file_name r n) (file_name r j)).0 e) in
          rw e (ap (λ k. Some (file_text r images k)) same)
      by false e before =
          rw e (before (below (λ same. false≢true (sym e ∙ (bytes_eq-Decides (file_name r n) (file_name r j)).1 (ap (file_name r) same)))))
        where
          below : (n ≡ j → ⊥) → j < n
          below differ = omega (arith, low, differ)

  -- no file is longer than the texts are
  short : (n most : ℕ) (other : List ℕ) → ((k : ℕ) → length (file_text r images k) ≤ most)
      → length (unwrap_or (with_moments r images n no_files other) []) ≤ most
  short zero most other each = nothing most
  short (suc n) most other each = by (bytes_eq (file_name r n) other) refl (short n most other each)
    where
      by : (b : Bool) → bytes_eq (file_name r n) other ≡ b → length (unwrap_or (with_moments r images n no_files other) []) ≤ most
          → length (unwrap_or (with_moments r images (suc n) no_files other) []) ≤ most
      by true e before = rw e (each n)
      by false e before = rw e before

-- the same bytes, one file behind the other
behind : (f : List ℕ → List ℕ) (name text : ℕ → List ℕ) (a b n : ℕ) → ((j : ℕ) → j < n → f (name (a + j)) ≡ text (b + j))
    → flat_map f (map name (range_with_len a n)) ≡ flat_map text (range_with_len b n)
behind f name text a b zero each = refl
behind f name text a b (suc n) each =
    let first : f (name a) ≡ text b =
    both (λ k m. f (name k) ≡ text m) (a + 0) (b + 0) a b (omega arith) (omega arith) (each 0 (omega arith)) in
    let rest = behind f name text (a + 1) (b + 1) n (λ j low.
    both (λ k m. f (name k) ≡ text m) (a + (j + 1)) (b + (j + 1)) (a + 1 + j) (b + 1 + j) (omega arith) (omega arith) (each (j + 1) (omega (arith, low)))) in
    ap (λ bytes. bytes ++ flat_map f (map name (range_with_len (a + 1) n))) first
    ∙ ap (λ bytes. text b ++ bytes) rest

narrow : (low high : ℤ) → low ≡ pos 0 → high ≤ℤ pos 8192 → int_gap low high ≤ 8192
narrow low high at most = grind (arith, ints)

short_file : (r : Reel) (images : Images) (j : ℕ) → HasFiles r.graph → length (file_text r images j) ≤ 1073741824
unfolding picture_text
short_file r images j has =
    let p = r.graph.project in
    short_text r.graph.format (picture meaning_of (graph_in r j) images (pos (frame_in r j)))
    (narrow p.x1 p.x2 has.extent.left has.extent.wide.1)
    (narrow p.y1 p.y2 has.extent.bottom has.extent.high.1)

-- ---- what the depot holds, which began empty

-- a graph at a fraction of its size has the same files
pub small_files : (q : ℕ) (g : Graph) → IsScale q → HasFiles g → HasFiles (scaled_graph number_of q g)
small_files q g scale has = record { extent = project_stays q g.project scale.0 has.extent; one_run = has.one_run }

module _ (q : ℕ) (g : Graph) (images : Images) (a n : ℕ) (old new : Files) (has : HasFiles g) (empty : (name : List ℕ) → old name ≡ None)
    (gained : HasGained (alone q g a n) images n old new) where
  from_none : (name : List ℕ) → new name ≡ with_moments (alone q g a n) images n no_files name
  from_none name = gained name ∙ ap (λ (f : Files). with_moments (alone q g a n) images n f name) (fun_ext empty)

  -- no file is longer than a picture's text may be
  pub are_short : AreShort new
  are_short name =
      rw (from_none name) (short (alone q g a n) images n 1073741824 name (λ j. short_file (alone q g a n) images j has))

  -- different frames have different files
  apart : a + n ≤ 2 ^ 32 → (k m : ℕ) → k < n → m < n → file_name (alone q g a n) k ≡ file_name (alone q g a n) m → k ≡ m
  apart low k m k_low m_low same =
      let one : a + k ≡ a + m =
      name_of-apart g.file (a + k) (a + m) has.one_run (omega (arith, low, k_low)) (omega (arith, low, m_low))
      (sym (alone_name q g a n k k_low) ∙ same ∙ alone_name q g a n m m_low) in
      omega (arith, one)

  -- the files of these names have the bytes of the frames' texts
  pub bytes_put : a + n ≤ 2 ^ 32 → flat_map (bytes_under new) (map (name_of g.file) (range_with_len a n)) ≡ bytes_of (alone q g a n) images n
  bytes_put low =
      behind (bytes_under new) (name_of g.file) (file_text (alone q g a n) images) a 0 n (λ j below.
      let at : j ≡ 0 + j = omega arith in
      let there : bytes_under new (file_name (alone q g a n) j) ≡ file_text (alone q g a n) images j =
      ap (λ o. unwrap_or o []) (gained (file_name (alone q g a n) j) ∙ found (alone q g a n) images n j old (apart low) below) in
      subst₂ (λ (name : List ℕ) (k : ℕ). bytes_under new name ≡ file_text (alone q g a n) images k) (alone_name q g a n j below) at there)

-- ---- how it ends

-- a count that stands still has not risen
never : HasRisen 0 0 → ⊥
never (inl low) = omega (arith, low)
never (inr high) = omega (arith, high)

-- want of memory
pub bench_memory : (order : Ordered) → IsMakingFault (Some order) run.Memory
bench_memory order = record { moment = 0; cause = tt; words = λ is. cc; no_report = λ is. cc }

pub bench_graph : (order : Ordered) (library : Files) (e : GraphFailure) → library ≡ made_of order.graph
    → GraphCause library order.graph e → GraphFetch order.graph 0 0 [] [] e → IsMakingFault (Some order) (graph_fault e)
bench_graph order library (graph.Read name) made cause fetch = absurd (never fetch.0)
bench_graph order library (graph.Refused code path) made cause fetch =
    record {
      moment = 0;
      cause = record {
        order = order;
        ordered = refl;
        refused = subst (λ (f : Files). graph_under f order.graph ≡ Some (Err (refusal code path))) made cause;
      };
      words = λ is. cc;
      no_report = λ is. cc;
    }
bench_graph order library graph.Memory made cause fetch = bench_memory order

pub bench_stops : (order : Ordered) (library old new : Files) (e : RunFault) → library ≡ made_of order.graph
    → Stops (Unit {0}) (Unit {0}) (Some order) library (calls 0 0 [] []) (calls 0 0 [] []) old new e → IsMakingFault (Some order) e
bench_stops order library old new e made s =
    record {
      moment = s.moment;
      cause = by e s.rose (subst (λ (f : Files). Cause (Some order) f s.moment e) made (s.cause tt));
      words = s.ordered;
      no_report = s.no_report;
    }
  where
    by : (f : RunFault) → Rose (0, 0, []) (0, 0, []) (0, 0) f → Cause (Some order) (made_of order.graph) s.moment f → BenchCause (Some order) s.moment f
    by run.Usage rose cause = cause
    by (run.Graph code path) rose cause = cause
    by (run.Frame node t why) rose cause = cause
    by (run.Read name) rose cause = absurd (never rose.0)
    by (run.Write name) rose cause = absurd (never rose.0)
    by run.Memory rose cause = cause
    by run.Report rose cause = cause

-- what is told of these images
abbrev told_of : {order : Ordered} {library : Files} → Images → IsAccepted (Some order) library → List ℕ
told_of images known =
    let bytes = bytes_of known.job.reel (scaled_in known.job.reel images) (count_in known.job) in
    bench_text (count_in known.job) (length bytes) (sum bytes)

pub bench_is : {tells : Type 0} (order : Ordered) (library old new : Files) (file : FileShown) (count : TileCount) (a b frames size total : ℕ)
    → library ≡ made_of order.graph → graph_under library order.graph ≡ Some (Ok file) → takes_for order.mode file.takes ≡ []
    → a ≡ first_of file.graph order → b ≡ last_of file.graph order
    → (r : HasRendered tells (Some order) library old new count) → frames ≡ frame_count a b
    → (let reel = plain_reel order.scale (ordered_file order file).graph a b in
    size ≡ length (bytes_of reel (scaled_in reel r.images) (frame_count a b)))
    → (let reel = plain_reel order.scale (ordered_file order file).graph a b in
    total ≡ sum (bytes_of reel (scaled_in reel r.images) (frame_count a b)))
    → IsBenchReport (Some order) (bench_text frames size total)
bench_is order library old new file count a b frames size total made there none first last r many long adds =
    subst (λ (f : Files). (known : IsAccepted (Some order) f) → AreImages f (wanted_of known.job.uses) r.images
    → bench_text frames size total ≡ told_of r.images known → IsBenchReport (Some order) (bench_text frames size total)) (sym made)
    (λ known are told. record { known = known; images = r.images; are = are; told = told }) r.known r.are is
  where
    is : bench_text frames size total ≡ told_of r.images r.known
    is =
        let job = r.known.job in
        let h = (ordered_file order file).graph in
        let reel = plain_reel order.scale h a b in
        let here : reel ≡ job.reel =
        ap₂ (plain_reel order.scale h) first last
        ∙ sym (plain_is order file none job.reel (reel_here order library file job there)) in
        let moments : frame_count a b ≡ count_in job = sym (alone_many order.scale h a (frame_count a b)) ∙ ap (λ (s : Reel). moments_in s) here in
        let bytes : bytes_of reel (scaled_in reel r.images) (frame_count a b) ≡ bytes_of job.reel (scaled_in job.reel r.images) (count_in job) =
        ap (λ (k : ℕ). bytes_of reel (scaled_in reel r.images) k) moments
        ∙ ap (λ (s : Reel). bytes_of s (scaled_in s r.images) (count_in job)) here in
        ap (λ k. bench_text k size total) (many ∙ moments)
        ∙ ap (λ k. bench_text (count_in job) k total) (long ∙ ap length bytes)
        ∙ ap (λ k. bench_text (count_in job) (length (bytes_of job.reel (scaled_in job.reel r.images) (count_in job))) k) (adds ∙ ap sum bytes)

-- nothing was read, put or written
module _ (a : ℕ) (x : List ℕ) where
  no_fetch : (asked : Option Ordered) (e : RunFault) → LeavesLibrary asked e a a x x
  no_fetch asked run.Usage = no_call a x
  no_fetch asked (run.Graph code path) = no_call a x
  no_fetch asked (run.Frame node t why) = no_call a x
  no_fetch asked (run.Read name) = tt
  no_fetch asked (run.Write name) = λ none. no_call a x
  no_fetch asked run.Memory = tt
  no_fetch asked run.Report = no_call a x

  no_put : (e : RunFault) → LeavesDepot e a a x x
  no_put run.Usage = no_call a x
  no_put (run.Graph code path) = no_call a x
  no_put (run.Frame node t why) = no_call a x
  no_put (run.Read name) = no_call a x
  no_put (run.Write name) = tt
  no_put run.Memory = no_call a x
  no_put run.Report = no_call a x

no_rise : (asked : Option Ordered) (j : ℕ) (library depot : ℕ × ℕ × List ℕ) (out : ℕ × ℕ) (e : RunFault) → BenchCause asked j e
    → e ≢ run.Report → Rose library depot out e
no_rise asked j library depot out run.Usage cause other = tt
no_rise asked j library depot out (run.Graph code path) cause other = tt
no_rise asked j library depot out (run.Frame node t why) cause other = tt
no_rise asked j library depot out (run.Read name) cause other = absurd cause
no_rise asked j library depot out (run.Write name) cause other = absurd cause
no_rise asked j library depot out run.Memory cause other = tt
no_rise asked j library depot out run.Report cause other = absurd (other refl)

not_told : (asked : Option Ordered) (text : List ℕ) (e : RunFault) → e ≢ run.Report → LeavesBenchReport asked e text text
not_told asked text run.Usage other = refl
not_told asked text (run.Graph code path) other = refl
not_told asked text (run.Frame node t why) other = refl
not_told asked text (run.Read name) other = refl
not_told asked text (run.Write name) other = refl
not_told asked text run.Memory other = refl
not_told asked text run.Report other = absurd (other refl)

module _ {o : Type 0} (order : Ordered) (library depot : Files) (a p : ℕ) (x q : List ℕ) where
  pub making_ended : (w : ℕ) (out : List ℕ) (e : RunFault) → IsMakingFault (Some order) e
      → Ended (Some mode.Bench) (Unit {0}) (Unit {0}) o (Some order) library (calls a a x x) (calls p p q q) (w, w) (depot, depot) (out, out) e
  making_ended w out e m =
      record {
        moment = m.moment;
        rose = no_rise (Some order) m.moment (a, a, x) (p, p, q) (w, w) e m.cause m.no_report;
        cause = m.cause;
        leaves = λ one two. untouched depot;
        tells = λ one. not_told (Some order) out e m.no_report;
        fetched = no_fetch a x (Some order) e;
        put = no_put p q e;
        wrote = same_out w e;
        usage = λ is. absurd (m.words is);
      }

  pub report_ended : (text : List ℕ) (w z : ℕ) (out more : List ℕ) (e : ReportFailure) → IsBenchReport (Some order) text → ReportRose w z e
      → (o → BeginsReport text e out more)
      → Ended (Some mode.Bench) (Unit {0}) (Unit {0}) o (Some order) library (calls a a x x) (calls p p q q) (w, z) (depot, depot) (out, more) (report_fault e)
  report_ended text w z out more report.Report is rose begins =
      record {
        moment = 0;
        rose = rose;
        cause = is.known;
        leaves = λ one two. untouched depot;
        tells = λ one. (text, is, begins one);
        fetched = no_call a x;
        put = no_call p q;
        wrote = tt;
        usage = λ same. absurd cc;
      }
  report_ended text w z out more report.Memory is rose begins =
      record {
        moment = 0;
        rose = tt;
        cause = tt;
        leaves = λ one two. untouched depot;
        tells = λ one. begins one;
        fetched = tt;
        put = no_call p q;
        wrote = rose;
        usage = λ same. absurd cc;
      }
