-- How a render ends.
use Rattle.std.proofs.Common.{◌≡◌, ◌≢◌, ◌+◌, ◌*◌, inl, inr, arith, ℕ, List, [], length, Contains, Some, Ok, refl, subst}
use Rattle.fx_base.proofs.RunLaws.{Contains-map}
use Rattle.fx_outside.specs.Outside.{Files, HasRisen}
use Rattle.fx_seq.specs.declared.used.Use.{Use}
use Rattle.fx_seq.specs.declared.wanted.Wanted.{Wanted}
use Rattle.fx_seq.specs.Filling.{IsQuiet}
use Rattle.fx_seq.specs.Moments.{due_until}
use Rattle.fx_seq.proofs.FillingLemmas.{quiet_more}
use Rattle.fx_seq.proofs.MomentLemmas.{from_until, to_until}
use Rattle.fx_proxy.specs.Proxy.{scaled_images}
use Rattle.fx_proxy.specs.Reduced.{IsScale}
use Rattle.fx_scene.specs.Scenes.{Images}
use Rattle.fx_tile.specs.declared.count.TileCount.{TileCount}
use Rattle.fx_words.specs.Ordered.{Ordered}
use Rattle.fx_words.specs.Texts.{report_text}
use Rattle.fx_words.specs.declared.order.Mode.TheVariants as mode
use Rattle.fx_words.specs.declared.fault.RunFault.{RunFault}
use Rattle.fx_words.specs.declared.fault.RunFault.TheVariants as run
use Rattle.fx_modes.specs.declared.graph.GraphFailure.{GraphFailure}
use Rattle.fx_modes.specs.declared.graph.GraphFailure.TheVariants as graph
use Rattle.fx_modes.specs.declared.report.ReportFailure.{ReportFailure}
use Rattle.fx_modes.specs.declared.report.ReportFailure.TheVariants as report
use Rattle.fx_modes.specs.Graphs.{FileShown, graph_under, first_of, last_of, frame_count}
use Rattle.fx_modes.specs.Reels.{Reel, moments_in, ordered_file, plain_reel, scaled_in, takes_for}
use Rattle.fx_modes.specs.Files.{AreImages, AreUsesOf, HasGained, wanted_of}
use Rattle.fx_modes.specs.Run.{Cause, HasPutAll, Leaves, LeavesLibrary, LeavesOwnReport, LeavesReport, Rose, count_in}
use Rattle.fx_modes.specs.Tiles.{report_of}
use Rattle.fx_modes.specs.Ended.{Ended, calls}
use Rattle.fx_modes.specs.Moments.{HasRendered, Stops}
use Rattle.fx_modes.specs.Steps.{graph_fault, report_fault, GraphFetch, GraphCause, ReportRose, BeginsReport}
use Rattle.fx_modes.proofs.StepsLemmas.{no_call, untouched, same_out}
use Rattle.fx_modes.proofs.JobLemmas.{order_here, reel_here}
use Rattle.fx_modes.proofs.ReelLemmas.{alone_many, plain_is}
use Rattle.fx_modes.proofs.CountLemmas.{render_is}
use Rattle.fx_modes.proofs.UsesLemmas.{from_wanted}

-- ---- what was rendered

pub all_put : {tells : Type 0} (order : Ordered) (library old new : Files) (count : TileCount)
    → HasRendered tells (Some order) library old new count → tells → HasPutAll (Some order) library old new
all_put order library old new count r told = record { known = r.known; images = r.images; are = r.are; gained = r.gained told }

-- its size is one that may be ordered
pub size_here : {tells : Type 0} (order : Ordered) (library old new : Files) (file : FileShown) (count : TileCount)
    → HasRendered tells (Some order) library old new count → graph_under library order.graph ≡ Some (Ok file) → IsScale order.scale
size_here order library old new file count r there =
    subst (λ (o : Ordered). IsScale o.scale) (order_here order library file r.known.job there) r.size

-- over the graph and the frames of an order, where no takes are ordered
pub gained_here : {tells : Type 0} (order : Ordered) (library old new : Files) (file : FileShown) (count : TileCount)
    → (r : HasRendered tells (Some order) library old new count) → graph_under library order.graph ≡ Some (Ok file)
    → takes_for order.mode file.takes ≡ [] → tells
    → (let h = (ordered_file order file).graph in let a = first_of h order in let b = last_of h order in
    HasGained (plain_reel order.scale h a b) (scaled_images order.scale r.images) (frame_count a b) old new)
gained_here order library old new file count r there none told =
    let job = r.known.job in
    let h = (ordered_file order file).graph in
    let a = first_of h order in
    let b = last_of h order in
    let small = scaled_images order.scale r.images in
    let reel : job.reel ≡ plain_reel order.scale h a b = plain_is order file none job.reel (reel_here order library file job there) in
    subst (λ (n : ℕ). HasGained (plain_reel order.scale h a b) small n old new) (alone_many order.scale h a (frame_count a b))
    (subst (λ (s : Reel). HasGained s (scaled_in s r.images) (moments_in s) old new) reel (r.gained told))

-- what is wanted at all is due at one of all moments
due_images : (library : Files) (r : Reel) (uses : List Use) (images : Images) → AreUsesOf r uses
    → AreImages library (wanted_of uses) images → AreImages library (due_until uses (moments_in r)) images
due_images library r uses images are shown =
    record {
      each = λ w at.
          let u = from_until uses (moments_in r) w at in
          shown.each w (subst (λ (v : Wanted). Contains (wanted_of uses) v) u.3 (Contains-map (λ (x : Use). x.wanted) uses u.0 u.1));
      only = λ m f none. shown.only m f (λ l.
          let u = from_wanted uses l.entry l.listed in
          let is = are.moments.each u.0 u.1 in
          let order = is.order in
          let end = is.end in
          let due = to_until uses u.0 u.1 (moments_in r) (omega (arith, order, end)) in
          none (record {
            entry = l.entry;
            listed = subst (λ (v : Wanted). Contains (due_until uses (moments_in r)) v) u.2 due;
            node = l.node;
            frame = l.frame;
          }));
    }

-- ---- how it ends

pub rose_since : (a b c : ℕ) (z : List ℕ) (depot : ℕ × ℕ × List ℕ) (out : ℕ × ℕ) (e : RunFault) → b ≡ a → e ≢ run.Report
    → Rose (b, c, z) depot (0, 0) e → Rose (a, c, z) depot out e
rose_since a b c z depot out run.Usage same other rose = tt
rose_since a b c z depot out (run.Graph code path) same other rose = tt
rose_since a b c z depot out (run.Frame node t why) same other rose = tt
rose_since a b c z depot out (run.Read name) same other rose = (subst (λ (n : ℕ). HasRisen n c) same rose.0, rose.1)
rose_since a b c z depot out (run.Write name) same other rose = rose
rose_since a b c z depot out run.Memory same other rose = tt
rose_since a b c z depot out run.Report same other rose = absurd (other refl)

pub fetches_since : (asked : _) (a b c : ℕ) (x y z : List ℕ) (e : RunFault) → IsQuiet a b x y → LeavesLibrary asked e b c y z
    → LeavesLibrary asked e a c x z
fetches_since asked a b c x y z run.Usage quiet leaves = quiet_more quiet leaves
fetches_since asked a b c x y z (run.Graph code path) quiet leaves = quiet_more quiet leaves
fetches_since asked a b c x y z (run.Frame node t why) quiet leaves = quiet_more quiet leaves
fetches_since asked a b c x y z (run.Read name) quiet leaves = tt
fetches_since asked a b c x y z (run.Write name) quiet leaves = λ none. quiet_more quiet (leaves none)
fetches_since asked a b c x y z run.Memory quiet leaves = tt
fetches_since asked a b c x y z run.Report quiet leaves = quiet_more quiet leaves

not_told : (asked : _) (library : Files) (text : List ℕ) (e : RunFault) → e ≢ run.Report
    → LeavesReport e text text × LeavesOwnReport asked library e text text
not_told asked library text run.Usage other = (refl, tt)
not_told asked library text (run.Graph code path) other = (refl, tt)
not_told asked library text (run.Frame node t why) other = (refl, tt)
not_told asked library text (run.Read name) other = (refl, tt)
not_told asked library text (run.Write name) other = (refl, tt)
not_told asked library text run.Memory other = (refl, tt)
not_told asked library text run.Report other = absurd (other refl)

module _ {l d o : Type 0} (order : Ordered) (library : Files) where
  pub graph_ended : (a b : ℕ) (x y : List ℕ) (p : ℕ) (q : List ℕ) (w : ℕ) (files : Files) (out : List ℕ) (e : GraphFailure)
      → (l → GraphCause library order.graph e) → GraphFetch order.graph a b x y e
      → Ended (Some mode.Render) l d o (Some order) library (calls a b x y) (calls p p q q) (w, w) (files, files) (out, out) (graph_fault e)
  graph_ended a b x y p q w files out (graph.Read other) cause fetch =
      record {
        moment = 0;
        rose = (fetch.0, fetch.1);
        cause = λ one. inl (order, refl, fetch.2, refl);
        leaves = λ one two. inl (refl, untouched files);
        tells = λ one. (refl, λ two. tt);
        fetched = tt;
        put = no_call p q;
        wrote = refl;
        usage = λ is. absurd cc;
      }
  graph_ended a b x y p q w files out (graph.Refused code path) cause fetch =
      record {
        moment = 0;
        rose = tt;
        cause = λ one. record { order = order; ordered = refl; refused = cause one };
        leaves = λ one two. untouched files;
        tells = λ one. (refl, λ two. tt);
        fetched = fetch;
        put = no_call p q;
        wrote = refl;
        usage = λ is. absurd cc;
      }
  graph_ended a b x y p q w files out graph.Memory cause fetch =
      record {
        moment = 0;
        rose = tt;
        cause = λ one. tt;
        leaves = λ one two. inl (untouched files);
        tells = λ one. (refl, λ two. tt);
        fetched = tt;
        put = no_call p q;
        wrote = refl;
        usage = λ is. absurd cc;
      }

  -- the graph was read, and then the moments ended early
  pub stopped_ended : (mid : Files) (a b c : ℕ) (x y z : List ℕ) (p q : ℕ) (u v : List ℕ) (w : ℕ) (old new : Files) (out : List ℕ)
      (e : RunFault) → (l → mid ≡ library) → IsQuiet a b x y → Stops l d (Some order) mid (calls b c y z) (calls p q u v) old new e
      → Ended (Some mode.Render) l d o (Some order) library (calls a c x z) (calls p q u v) (w, w) (old, new) (out, out) e
  stopped_ended mid a b c x y z p q u v w old new out e same quiet s =
      let told = not_told (Some order) library out e s.no_report in
      record {
        moment = s.moment;
        rose = rose_since a b c z (p, q, v) (w, w) e quiet.count s.no_report s.rose;
        cause = λ one. subst (λ (f : Files). Cause (Some order) f s.moment e) (same one) (s.cause one);
        leaves = λ one two. subst (λ (f : Files). Leaves (Some order) f s.moment e old new) (same one) (s.leaves one two);
        tells = λ one. (told.0, λ two. told.1);
        fetched = fetches_since (Some order) a b c x y z e quiet s.fetches;
        put = s.places;
        wrote = same_out w e;
        usage = λ is. absurd (s.ordered is);
      }

  -- all was put, and then the report was not written
  pub report_ended : (file : FileShown) (takes frames : ℕ) (count : TileCount) (a b : ℕ) (x y : List ℕ) (p q : ℕ) (u v : List ℕ) (w z : ℕ)
      (old new : Files) (out more : List ℕ) (e : ReportFailure) → (l → graph_under library order.graph ≡ Some (Ok file))
      → takes ≡ length (takes_for order.mode file.takes) + 1
      → frames ≡ takes * frame_count (first_of file.graph order) (last_of file.graph order)
      → (l → HasRendered d (Some order) library old new count)
      → IsQuiet a b x y → IsQuiet p q u v → ReportRose w z e
      → (o → BeginsReport (report_text (report_of order.mode takes frames count)) e out more)
      → Ended (Some mode.Render) l d o (Some order) library (calls a b x y) (calls p q u v) (w, z) (old, new) (out, more) (report_fault e)
  report_ended file takes frames count a b x y p q u v w z old new out more report.Report there many each made quiet puts rose begins =
      record {
        moment = 0;
        rose = rose;
        cause = λ one. (made one).known;
        leaves = λ one two. all_put order library old new count (made one) two;
        tells = λ one. (
          (report_of order.mode takes frames count, begins one),
          λ two. (
            report_text (report_of order.mode takes frames count),
            render_is order library old new file takes frames count (there two) many each (made two),
            begins one,
          ),
        );
        fetched = quiet;
        put = puts;
        wrote = tt;
        usage = λ is. absurd cc;
      }
  report_ended file takes frames count a b x y p q u v w z old new out more report.Memory there many each made quiet puts rose begins =
      record {
        moment = 0;
        rose = tt;
        cause = λ one. tt;
        leaves = λ one two.
            let r = made one in
            let job = r.known.job in
            inr (
              count_in job,
              record {
                job = job;
                few = omega arith;
                accepted = r.known.accepted;
                images = r.images;
                are = due_images library job.reel job.uses r.images job.are r.are;
                gained = r.gained two;
              },
            );
        tells = λ one. (begins one, λ two. tt);
        fetched = tt;
        put = puts;
        wrote = rose;
        usage = λ is. absurd cc;
      }
