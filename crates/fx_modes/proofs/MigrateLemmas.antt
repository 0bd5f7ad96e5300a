-- A graph that is migrated is the same graph, and how a migration ends early.
use Rattle.std.proofs.Common.{◌≡◌, ◌≢◌, ◌≤◌, ◌⊎◌, inl, inr, arith, ℕ, List, length, Option, Some, None, option_map, Result, Ok, Err, refl, sym, ap, subst, ◌∙◌}
use Rattle.std.proofs.lemmas.Option.{none-some, same_Some}
use Rattle.fx_outside.specs.Outside.{Files, HasRisen, SameFiles, SameBut}
use Rattle.fx_seq.specs.Filling.{IsQuiet}
use Rattle.fx_text.specs.Fault.{Fault, told}
use Rattle.fx_text.specs.Json.{after, value_of}
use Rattle.fx_text.specs.Migrated.{IsMigrated, IsSameGraph, value_in}
use Rattle.fx_text.specs.Nodes as text
use Rattle.fx_text.specs.Objects.{read_graph, graph_in}
use Rattle.fx_text.specs.declared.fault.GraphFault.{GraphFault}
use Rattle.fx_text.specs.declared.fault.GraphFault.TheVariants as fault
use Rattle.fx_graph.specs.Graphs as accepted
use Rattle.fx_graph.specs.Refusal.{refusal, Tells}
use Rattle.fx_group.specs.Graph.{expand_of}
use Rattle.fx_group.specs.Plain.{slash_fault}
use Rattle.fx_group.proofs.FormatLaws.{groupless}
use Rattle.fx_group.proofs.TwoLaws.{went, stays_expanded}
use Rattle.fx_shipped.specs.Shipped.{effect_of, meaning_of}
use Rattle.fx_words.specs.Ordered.{Ordered}
use Rattle.fx_words.specs.Texts.{migrate_text, report_text}
use Rattle.fx_words.specs.declared.order.Mode.TheVariants as mode
use Rattle.fx_words.specs.declared.fault.RunFault.{RunFault}
use Rattle.fx_words.specs.declared.fault.RunFault.TheVariants as run
use Rattle.fx_words.specs.declared.report.Report.TheVariants.{Migrate}
use Rattle.fx_base.specs.declared.limits.TheConstants.{MOST_NODES, MOST_SIDE}
use Rattle.fx_modes.specs.declared.graph.GraphFailure.{GraphFailure}
use Rattle.fx_modes.specs.declared.graph.GraphFailure.TheVariants as graph
use Rattle.fx_modes.specs.declared.frames.PutFailure.{PutFailure}
use Rattle.fx_modes.specs.declared.frames.PutFailure.TheVariants as put
use Rattle.fx_modes.specs.declared.report.ReportFailure.{ReportFailure}
use Rattle.fx_modes.specs.declared.report.ReportFailure.TheVariants as report
use Rattle.fx_modes.specs.Graphs.{FileShown, accepted_of, graph_of, graph_under, raw_of}
use Rattle.fx_modes.specs.Files.{with_file}
use Rattle.fx_modes.specs.Texts.{status_of}
use Rattle.fx_modes.specs.Run.{NamesNoGraph, IsRefused, Rose}
use Rattle.fx_modes.specs.Migrate.{migrated_name, migrate_report, slash_of, slash_in, Migration, HasSlash, NamesSlash, HasMigrated, MigrateCause}
use Rattle.fx_modes.specs.Ended.{calls, Ended}
use Rattle.fx_modes.specs.Steps.{graph_fault, put_fault, report_fault, GraphFetch, GraphCause, FilePut, LeavesFile, ReportRose, BeginsReport, IsMigrationOf, IsMigrationIn, IsPlainGraph, MigrationCause, MigrationRefused}
use Rattle.fx_modes.proofs.GraphLemmas.{with_takes}
use Rattle.fx_modes.proofs.StepsLemmas.{no_call, untouched}

-- ---- the same graph

-- what was read, expanded and accepted is the same from a text that says it in format 2
same_from : (bytes other : List ℕ) (raw : text.Graph) (file : FileShown) → raw_of bytes ≡ Ok raw → accepted_of raw ≡ Ok file
    → slash_fault raw ≡ None → length raw.nodes ≤ MOST_NODES → IsSameGraph bytes other → graph_of other ≡ Ok file
unfolding raw_of accepted_of graph_of
same_from bytes other raw file is fine free few same =
    let read = went (read_graph bytes MOST_NODES MOST_SIDE) expand_of raw is in
    let known = went (accepted.graph_of effect_of meaning_of raw) (with_takes raw) file fine in
    let there : read_graph other MOST_NODES MOST_SIDE ≡ Ok (record read.first { format = 2 }) = same MOST_NODES MOST_SIDE read.first read.is in
    let expanded : expand_of (record read.first { format = 2 }) ≡ Ok (record raw { format = 2 }) =
    stays_expanded effect_of meaning_of read.first raw known.first (groupless bytes MOST_NODES MOST_SIDE read.first read.is) few read.then_is known.is free in
    ap (λ r. after (after r expand_of) accepted_of) there ∙ ap (λ r. after r accepted_of) expanded ∙ fine

pub plain_is : (bytes : List ℕ) (raw : text.Graph) (file : FileShown) → raw_of bytes ≡ Ok raw → accepted_of raw ≡ Ok file
    → slash_fault raw ≡ None → length raw.nodes ≤ MOST_NODES → graph_of bytes ≡ Ok file → IsPlainGraph bytes file
plain_is bytes raw file is fine free few there =
    record {
      is = there;
      plain = ap slash_of is ∙ free;
      stays = λ other same. same_from bytes other raw file is fine free few same;
    }

pub slashed : (bytes : List ℕ) (raw : text.Graph) (file : FileShown) (e : GraphFault) → raw_of bytes ≡ Ok raw → graph_of bytes ≡ Ok file
    → Tells (slash_fault raw) e → MigrationRefused bytes e
slashed bytes raw file fault.Memory is there tells = tt
slashed bytes raw file (fault.Refused code path) is there tells = inr (file, there, ap slash_of is ∙ tells)

pub refused : (bytes : List ℕ) (e : GraphFault) → (e ≢ fault.Memory → graph_of bytes ≡ Err (told e)) → MigrationRefused bytes e
refused bytes fault.Memory is = tt
refused bytes (fault.Refused code path) is = inl (is (λ same. cc))

-- bytes that are a graph have a value
pub has_value : (bytes : List ℕ) (file : FileShown) (f : Fault) → graph_of bytes ≡ Ok file → value_in bytes ≡ Err f → ⊥
unfolding raw_of graph_of
has_value bytes file f is none =
    let raw = went (raw_of bytes) accepted_of file is in
    let read = went (read_graph bytes MOST_NODES MOST_SIDE) expand_of raw.first raw.is in
    by (value_of bytes) refl read.first read.is
  where
    by : (o : Option _) → value_of bytes ≡ o → (raw : text.Graph) → graph_in MOST_NODES MOST_SIDE o ≡ Ok raw → ⊥
    by None at raw h = cc
    by (Some d) at raw h = cc

pub unvalued : (bytes : List ℕ) (file : FileShown) (e : GraphFault) → graph_of bytes ≡ Ok file
    → (e ≢ fault.Memory → value_in bytes ≡ Err (told e)) → MigrationRefused bytes e
unvalued bytes file fault.Memory is none = tt
unvalued bytes file (fault.Refused code path) is none = absurd (has_value bytes file _ is (none (λ same. cc)))

pub migration_is : (bytes made : List ℕ) (file : FileShown) (nodes : ℕ) → IsPlainGraph bytes file → nodes ≡ length file.graph.nodes
    → IsMigrated bytes made → IsSameGraph bytes made → IsMigrationIn bytes nodes made
migration_is bytes made file nodes plain many is same =
    record {
      file = file;
      is = plain.is;
      plain = plain.plain;
      many = many;
      made = is;
      same = plain.stays made same ∙ sym plain.is;
    }

-- ---- under a name

pub migration_under : (library : Files) (name bytes made : List ℕ) (nodes : ℕ) → library name ≡ Some bytes → IsMigrationIn bytes nodes made
    → IsMigrationOf library name nodes made
migration_under library name bytes made nodes there m =
    record {
      bytes = bytes;
      told = there;
      file = m.file;
      is = m.is;
      plain = m.plain;
      many = m.many;
      made = m.made;
      same = m.same;
    }

pub cause_under : (library : Files) (name bytes : List ℕ) (code : _) (path : List ℕ) → library name ≡ Some bytes
    → MigrationRefused bytes (fault.Refused code path) → MigrationCause library name (graph.Refused code path)
cause_under library name bytes code path there (inl is) = inl (ap (option_map graph_of) there ∙ ap Some is)
cause_under library name bytes code path there (inr s) =
    inr (record { bytes = bytes; told = there; file = s.0; is = s.1; slash = s.2 })

pub same_cause : (library : Files) (name : List ℕ) (e : GraphFailure) → GraphCause library name e → MigrationCause library name e
same_cause library name (graph.Read other) cause = tt
same_cause library name (graph.Refused code path) cause = inl cause
same_cause library name graph.Memory cause = tt

-- ---- how it ends

abbrev pub ordered_migration : (order : Ordered) (library : Files) (nodes : ℕ) (made : List ℕ) → IsMigrationOf library order.graph nodes made
    → Migration (Some order) library
ordered_migration order library nodes made m =
    record { order = order; ordered = refl; bytes = m.bytes; told = m.told; file = m.file; is = m.is; plain = m.plain }

pub has_migrated : (order : Ordered) (library old new : Files) (nodes : ℕ) (made : List ℕ) → IsMigrationOf library order.graph nodes made
    → SameFiles (with_file (migrated_name order.graph) made old) new → HasMigrated (Some order) library old new
has_migrated order library old new nodes made m gained =
    record {
      migration = ordered_migration order library nodes made m;
      text = made;
      is = m.made;
      same = m.same;
      gained = gained;
    }

pub report_is : (order : Ordered) (library : Files) (nodes : ℕ) (made : List ℕ) (m : IsMigrationOf library order.graph nodes made)
    → migrate_text nodes ≡ migrate_report (ordered_migration order library nodes made m)
report_is order library nodes made m = ap migrate_text m.many

module _ {l d o : Type 0} (order : Ordered) (library : Files) where
  pub graph_ended : (a b : ℕ) (x y : List ℕ) (p : ℕ) (q : List ℕ) (w : ℕ) (files : Files) (out : List ℕ) (e : GraphFailure)
      → (l → MigrationCause library order.graph e) → GraphFetch order.graph a b x y e
      → Ended (Some mode.Migrate) l d o (Some order) library (calls a b x y) (calls p p q q) (w, w) (files, files) (out, out) (graph_fault e)
  graph_ended a b x y p q w files out (graph.Read other) cause fetch =
      record {
        moment = 0;
        rose = (fetch.0, fetch.1);
        cause = (order, refl, fetch.2);
        leaves = λ one two. untouched files;
        tells = λ one. refl;
        fetched = tt;
        put = no_call p q;
        wrote = refl;
        usage = λ is. absurd cc;
      }
  graph_ended a b x y p q w files out (graph.Refused code path) cause fetch =
      record {
        moment = 0;
        rose = tt;
        cause = λ one. by (cause one);
        leaves = λ one two. untouched files;
        tells = λ one. refl;
        fetched = fetch;
        put = no_call p q;
        wrote = refl;
        usage = λ is. absurd cc;
      }
    where
      by : MigrationCause library order.graph (graph.Refused code path) → IsRefused (Some order) library code path ⊎ HasSlash (Some order) library code path
      by (inl is) = inl (record { order = order; ordered = refl; refused = is })
      by (inr s) = inr (record { order = order; ordered = refl; slashed = s })
  graph_ended a b x y p q w files out graph.Memory cause fetch =
      record {
        moment = 0;
        rose = tt;
        cause = tt;
        leaves = λ one two. inl (untouched files);
        tells = λ one. refl;
        fetched = tt;
        put = no_call p q;
        wrote = refl;
        usage = λ is. absurd cc;
      }

  pub put_ended : (nodes : ℕ) (made : List ℕ) (a b : ℕ) (x y : List ℕ) (p q : ℕ) (u v : List ℕ) (w : ℕ) (old new : Files) (out : List ℕ)
      (e : PutFailure) → (l → IsMigrationOf library order.graph nodes made) → IsQuiet a b x y
      → FilePut (migrated_name order.graph) p q u v e → (d → LeavesFile (migrated_name order.graph) e old new)
      → Ended (Some mode.Migrate) l d o (Some order) library (calls a b x y) (calls p q u v) (w, w) (old, new) (out, out) (put_fault e)
  put_ended nodes made a b x y p q u v w old new out (put.Write name) m quiet failed leaves =
      record {
        moment = 0;
        rose = (failed.0, failed.1);
        cause = (order, refl, failed.2, λ one. ordered_migration order library nodes made (m one));
        leaves = λ one two. subst (λ (n : List ℕ). SameBut n old new) failed.2 (leaves two);
        tells = λ one. refl;
        fetched = λ none. quiet;
        put = tt;
        wrote = refl;
        usage = λ is. absurd cc;
      }
  put_ended nodes made a b x y p q u v w old new out put.Memory m quiet failed leaves =
      record {
        moment = 0;
        rose = tt;
        cause = tt;
        leaves = λ one two. inl (leaves two);
        tells = λ one. refl;
        fetched = tt;
        put = failed;
        wrote = refl;
        usage = λ is. absurd cc;
      }

  pub report_ended : (nodes : ℕ) (made : List ℕ) (a b : ℕ) (x y : List ℕ) (p q : ℕ) (u v : List ℕ) (w z : ℕ) (old new : Files)
      (out more : List ℕ) (e : ReportFailure) → (l → IsMigrationOf library order.graph nodes made) → IsQuiet a b x y → IsQuiet p q u v
      → (d → SameFiles (with_file (migrated_name order.graph) made old) new) → ReportRose w z e
      → (o → BeginsReport (report_text (Migrate nodes)) e out more)
      → Ended (Some mode.Migrate) l d o (Some order) library (calls a b x y) (calls p q u v) (w, z) (old, new) (out, more) (report_fault e)
  report_ended nodes made a b x y p q u v w z old new out more report.Report m quiet puts gained rose begins =
      record {
        moment = 0;
        rose = rose;
        cause = λ one. ordered_migration order library nodes made (m one);
        leaves = λ one two. has_migrated order library old new nodes made (m one) (gained two);
        tells = λ one. (nodes, begins one, λ two. (ordered_migration order library nodes made (m two), report_is order library nodes made (m two)));
        fetched = quiet;
        put = puts;
        wrote = tt;
        usage = λ is. absurd cc;
      }
  report_ended nodes made a b x y p q u v w z old new out more report.Memory m quiet puts gained rose begins =
      record {
        moment = 0;
        rose = tt;
        cause = tt;
        leaves = λ one two. inr (has_migrated order library old new nodes made (m one) (gained two));
        tells = λ one. begins one;
        fetched = tt;
        put = puts;
        wrote = rose;
        usage = λ is. absurd cc;
      }

-- ---- from the clause to the status

one_file : (library : Files) (a b : Ordered) (asked : Option Ordered) (x y : List ℕ) → asked ≡ Some a → asked ≡ Some b
    → library a.graph ≡ Some x → library b.graph ≡ Some y → x ≡ y
one_file library a b asked x y p q there also =
    let order : a ≡ b = same_Some a b (sym p ∙ q) in
    same_Some x y (sym there ∙ ap (λ (r : Ordered). library r.graph) order ∙ also)

apart_results : (file : FileShown) (f : Fault) (r : Result FileShown Fault) → r ≡ Ok file → r ≡ Err f → ⊥
apart_results file f r p q = cc

not_refused : (asked : Option Ordered) (library : Files) → Migration asked library → NamesNoGraph asked library → ⊥
not_refused asked library m (code, path, bad) =
    let order : bad.order ≡ m.order = same_Some bad.order m.order (sym bad.ordered ∙ m.ordered) in
    let under : graph_under library bad.order.graph ≡ Some (Ok m.file) =
    ap (λ (r : Ordered). graph_under library r.graph) order ∙ ap (option_map graph_of) m.told ∙ ap Some m.is in
    apart_results m.file (refusal code path) (Ok m.file) refl (same_Some _ _ (sym under ∙ bad.refused))

not_slashed : (asked : Option Ordered) (library : Files) → Migration asked library → NamesSlash asked library → ⊥
not_slashed asked library m (code, path, bad) =
    let bytes : m.bytes ≡ bad.slashed.bytes = one_file library m.order bad.order asked m.bytes bad.slashed.bytes m.ordered bad.ordered m.told bad.slashed.told in
    none-some (refusal code path) (sym m.plain ∙ ap slash_in bytes ∙ bad.slashed.slash)

-- where there is such a graph and no count rose, want of memory alone ends a migration
pub only_migrate_memory : (tells : Type 0) (asked : Option Ordered) (library : Files) (fetches puts : ℕ × ℕ × List ℕ) (out : ℕ × ℕ)
    (e : RunFault) → tells → Migration asked library → MigrateCause tells asked library e → Rose fetches puts out e
    → (HasRisen fetches.0 fetches.1 → ⊥) → (HasRisen puts.0 puts.1 → ⊥) → (HasRisen out.0 out.1 → ⊥) → status_of e ≡ 6
only_migrate_memory tells asked library fetches puts out run.Usage one m cause rose fetched wrote said =
    absurd (none-some m.order (sym cause ∙ m.ordered))
only_migrate_memory tells asked library fetches puts out (run.Graph code path) one m cause rose fetched wrote said = by (cause one)
  where
    by : IsRefused asked library code path ⊎ HasSlash asked library code path → status_of (run.Graph code path) ≡ 6
    by (inl bad) = absurd (not_refused asked library m (code, path, bad))
    by (inr bad) = absurd (not_slashed asked library m (code, path, bad))
only_migrate_memory tells asked library fetches puts out (run.Frame node t why) one m cause rose fetched wrote said = absurd cause
only_migrate_memory tells asked library fetches puts out (run.Read name) one m cause rose fetched wrote said = absurd (fetched rose.0)
only_migrate_memory tells asked library fetches puts out (run.Write name) one m cause rose fetched wrote said = absurd (wrote rose.0)
only_migrate_memory tells asked library fetches puts out run.Memory one m cause rose fetched wrote said = refl
only_migrate_memory tells asked library fetches puts out run.Report one m cause rose fetched wrote said = absurd (said rose)

-- a graph that is refused, or that has a slash, ends it with status 2
abbrev pub IsBad : Option Ordered → Files → Type 0
IsBad asked library = NamesNoGraph asked library ⊎ NamesSlash asked library

pub not_bad : (asked : Option Ordered) (library : Files) → Migration asked library → IsBad asked library → ⊥
not_bad asked library m (inl bad) = not_refused asked library m bad
not_bad asked library m (inr bad) = not_slashed asked library m bad

some_order : (asked : Option Ordered) (library : Files) → IsBad asked library → asked ≡ None → ⊥
some_order asked library (inl (code, path, bad)) none = none-some bad.order (sym none ∙ bad.ordered)
some_order asked library (inr (code, path, bad)) none = none-some bad.order (sym none ∙ bad.ordered)

pub refused_migrate : (tells : Type 0) (asked : Option Ordered) (library : Files) (fetches puts : ℕ × ℕ × List ℕ) (out : ℕ × ℕ) (e : RunFault)
    → tells → IsBad asked library → MigrateCause tells asked library e → Rose fetches puts out e
    → (HasRisen fetches.0 fetches.1 → ⊥) → (status_of e ≡ 2) ⊎ (status_of e ≡ 6)
refused_migrate tells asked library fetches puts out run.Usage one bad cause rose fetched = absurd (some_order asked library bad cause)
refused_migrate tells asked library fetches puts out (run.Graph code path) one bad cause rose fetched = inl refl
refused_migrate tells asked library fetches puts out (run.Frame node t why) one bad cause rose fetched = absurd cause
refused_migrate tells asked library fetches puts out (run.Read name) one bad cause rose fetched = absurd (fetched rose.0)
refused_migrate tells asked library fetches puts out (run.Write name) one bad cause rose fetched = absurd (not_bad asked library (cause.3 one) bad)
refused_migrate tells asked library fetches puts out run.Memory one bad cause rose fetched = inr refl
refused_migrate tells asked library fetches puts out run.Report one bad cause rose fetched = absurd (not_bad asked library (cause one) bad)

-- a migration has no status 3
migrate_status : (tells : Type 0) (asked : Option Ordered) (library : Files) (e : RunFault) → MigrateCause tells asked library e → status_of e ≢ 3
migrate_status tells asked library run.Usage cause is = omega (arith, is)
migrate_status tells asked library (run.Graph code path) cause is = omega (arith, is)
migrate_status tells asked library (run.Frame node t why) cause is = cause
migrate_status tells asked library (run.Read name) cause is = omega (arith, is)
migrate_status tells asked library (run.Write name) cause is = omega (arith, is)
migrate_status tells asked library run.Memory cause is = omega (arith, is)
migrate_status tells asked library run.Report cause is = omega (arith, is)

-- at status 4 of it the graph was not read
migrate_reads : (tells : Type 0) (asked : Option Ordered) (library : Files) (before now : ℕ) (last : List ℕ) (puts : ℕ × ℕ × List ℕ)
    (out : ℕ × ℕ) (e : RunFault) → status_of e ≡ 4 → MigrateCause tells asked library e → Rose (before, now, last) puts out e
    → (order : Ordered) × (asked ≡ Some order) × (last ≡ order.graph)
migrate_reads tells asked library before now last puts out run.Usage four cause rose = absurd (omega (arith, four))
migrate_reads tells asked library before now last puts out (run.Graph code path) four cause rose = absurd (omega (arith, four))
migrate_reads tells asked library before now last puts out (run.Frame node t why) four cause rose = absurd cause
migrate_reads tells asked library before now last puts out (run.Read name) four cause rose = (cause.0, cause.1, rose.1 ∙ sym cause.2)
migrate_reads tells asked library before now last puts out (run.Write name) four cause rose = absurd (omega (arith, four))
migrate_reads tells asked library before now last puts out run.Memory four cause rose = absurd (omega (arith, four))
migrate_reads tells asked library before now last puts out run.Report four cause rose = absurd (omega (arith, four))

module _ (tells : Type 0) (asked : Option Ordered) (library : Files) (status : ℕ) (e : RunFault) where
  pub migrate_answers : (status ≡ status_of e) ⊎ (status ≡ 6) → MigrateCause tells asked library e → status ≢ 3
  migrate_answers (inl is) cause three = migrate_status tells asked library e cause (sym is ∙ three)
  migrate_answers (inr is) cause three = omega (arith, is, three)

  pub migrate_read : (before now : ℕ) (last : List ℕ) (puts : ℕ × ℕ × List ℕ) (out : ℕ × ℕ) → (status ≡ status_of e) ⊎ (status ≡ 6)
      → MigrateCause tells asked library e → Rose (before, now, last) puts out e → status ≡ 4
      → (order : Ordered) × (asked ≡ Some order) × (last ≡ order.graph)
  migrate_read before now last puts out (inl is) cause rose four =
      migrate_reads tells asked library before now last puts out e (sym is ∙ four) cause rose
  migrate_read before now last puts out (inr is) cause rose four = absurd (omega (arith, is, four))

  pub slash_answers : (fetches puts : ℕ × ℕ × List ℕ) (out : ℕ × ℕ) → (status ≡ status_of e) ⊎ (status ≡ 6) → tells → NamesSlash asked library
      → MigrateCause tells asked library e → Rose fetches puts out e → (HasRisen fetches.0 fetches.1 → ⊥) → (status ≡ 2) ⊎ (status ≡ 6)
  slash_answers fetches puts out (inr is) one bad cause rose fetched = inr is
  slash_answers fetches puts out (inl is) one bad cause rose fetched =
      with_status (refused_migrate tells asked library fetches puts out e one (inr bad) cause rose fetched)
    where
      with_status : (status_of e ≡ 2) ⊎ (status_of e ≡ 6) → (status ≡ 2) ⊎ (status ≡ 6)
      with_status (inl two) = inl (is ∙ two)
      with_status (inr six) = inr (is ∙ six)
