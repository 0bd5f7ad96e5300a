-- What is asked for of one library, and what a step leaves where it did nothing.
use Rattle.std.proofs.Common.{◌≡◌, ◌⊎◌, ◌<◌, inl, inr, ℕ, List, Some, Result, Ok, Err, Option, refl, sym, ap, ◌∙◌, subst}
use Rattle.fx_base.specs.declared.limits.TheConstants.{MOST_SIDE}
use Rattle.fx_outside.specs.Outside.{Files, HasRisen, SameFiles}
use Rattle.fx_seq.specs.declared.used.Use.{Use}
use Rattle.fx_seq.specs.Filling.{IsQuiet}
use Rattle.fx_seq.specs.Moments.{moment_refused}
use Rattle.fx_text.specs.Fault.{Fault}
use Rattle.std.proofs.lemmas.Option.{none-some, same_Some}
use Rattle.fx_words.specs.Ordered.{Ordered}
use Rattle.fx_words.specs.declared.fault.RunFault.{RunFault}
use Rattle.fx_words.specs.declared.fault.RunFault.TheVariants as run
use Rattle.fx_modes.specs.declared.sources.TheConstants.{MOST_BYTES}
use Rattle.fx_modes.specs.Graphs.{FileShown, graph_under}
use Rattle.fx_modes.specs.Reels.{IsReelOf}
use Rattle.fx_modes.specs.Texts.{status_of}
use Rattle.fx_modes.specs.Run.{Job, IsAccepted, NamesNoGraph, Cause, Rose, LeavesOut, count_in}
use Rattle.fx_modes.proofs.JobLemmas.{one_file}
use Rattle.fx_modes.proofs.UsesLemmas.{SameReel, same_count, uses_once}

pub no_call : (a : ℕ) (x : List ℕ) → IsQuiet a a x x
no_call a x = record { count = refl; last_one = refl }

pub untouched : (files : Files) → SameFiles files files
untouched files name = refl

-- at equal frames
pub both : (P : ℕ → ℕ → Type 0) (a b c d : ℕ) → a ≡ c → b ≡ d → P a b → P c d
both P a b c d ac bd p = subst (λ (n : ℕ). P c n) bd (subst (λ (m : ℕ). P m b) ac p)

-- ---- what is asked for

not_both : (file : FileShown) (f : Fault) (a : Option (Result FileShown Fault)) → a ≡ Some (Ok file) → a ≡ Some (Err f) → ⊥
not_both file f a p q = cc

-- what is asked for and the library have one job, but for what its edits do not show
module _ (asked : Option Ordered) (library : Files) (j k : Job asked library) where
  orders_same : j.order ≡ k.order
  orders_same = same_Some j.order k.order (sym j.ordered ∙ k.ordered)

  files_same : j.file ≡ k.file
  files_same =
      one_file j.file k.file (graph_under library j.order.graph) j.there (ap (λ (o : Ordered). graph_under library o.graph) orders_same ∙ k.there)

  reels_same : SameReel j.reel k.reel
  reels_same =
      let is : IsReelOf k.order k.file j.reel =
      subst (λ (o : Ordered). IsReelOf o k.file j.reel) orders_same (subst (λ (f : FileShown). IsReelOf j.order f j.reel) files_same j.is) in
      record {
        graph = is.graph ∙ sym k.is.graph;
        edits = is.edits ∙ sym k.is.edits;
        first = is.first ∙ sym k.is.first;
        count = is.count ∙ sym k.is.count;
      }

  pub counts_same : count_in j ≡ count_in k
  counts_same = same_count j.reel k.reel reels_same

  pub uses_same : j.uses ≡ k.uses
  uses_same = uses_once j.reel k.reel j.uses k.uses reels_same j.are k.are

-- the library has no graph and no refusal of it at once
pub refused_not : (asked : Option Ordered) (library : Files) → Job asked library → NamesNoGraph asked library → ⊥
refused_not asked library job (code, path, refused) =
    let order : job.order ≡ refused.order = same_Some job.order refused.order (sym job.ordered ∙ refused.ordered) in
    not_both job.file _ (graph_under library job.order.graph) job.there
    (ap (λ (o : Ordered). graph_under library o.graph) order ∙ refused.refused)

-- ---- the top

-- where a run is accepted and no count rose, want of memory alone ends it
pub only_memory : (asked : Option Ordered) (library : Files) (j : ℕ) (fetches puts : ℕ × ℕ × List ℕ) (out : ℕ × ℕ) (e : RunFault)
    → IsAccepted asked library → Cause asked library j e → Rose fetches puts out e
    → (HasRisen fetches.0 fetches.1 → ⊥) → (HasRisen puts.0 puts.1 → ⊥) → (HasRisen out.0 out.1 → ⊥) → status_of e ≡ 6
only_memory asked library j fetches puts out run.Usage known cause rose fetched wrote told =
    absurd (none-some known.job.order (sym cause ∙ known.job.ordered))
only_memory asked library j fetches puts out (run.Graph code path) known cause rose fetched wrote told =
    absurd (refused_not asked library known.job (code, path, cause))
only_memory asked library j fetches puts out (run.Frame node t why) known cause rose fetched wrote told =
    let low = subst (λ (n : ℕ). j < n) (sym (counts_same asked library known.job cause.0)) cause.1 in
    let uses = ap (λ (us : List Use). moment_refused library MOST_SIDE MOST_BYTES us j) (uses_same asked library known.job cause.0) in
    absurd (none-some cause.2 (sym (known.accepted j low) ∙ uses ∙ cause.3.here))
only_memory asked library j fetches puts out (run.Read name) known cause rose fetched wrote told = absurd (fetched rose.0)
only_memory asked library j fetches puts out (run.Write name) known cause rose fetched wrote told = absurd (wrote rose.0)
only_memory asked library j fetches puts out run.Memory known cause rose fetched wrote told = refl
only_memory asked library j fetches puts out run.Report known cause rose fetched wrote told = absurd (told rose)

pub ends_by_memory : (r : ℕ) (e : RunFault) → (r ≡ status_of e) ⊎ (r ≡ 6) → status_of e ≡ 6 → (r ≡ 0) ⊎ (r ≡ 6)
ends_by_memory r e (inl is) six = inr (is ∙ six)
ends_by_memory r e (inr is) six = inr is

-- ---- the report's count of faults

-- where nothing was written
pub same_out : (a : ℕ) (e : RunFault) → LeavesOut e a a
same_out a run.Usage = refl
same_out a (run.Graph code path) = refl
same_out a (run.Frame node t why) = refl
same_out a (run.Read name) = refl
same_out a (run.Write name) = refl
same_out a run.Memory = refl
same_out a run.Report = tt
