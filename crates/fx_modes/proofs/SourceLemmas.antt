-- The source frames of a run, moment after moment: what was read, and why more was not.
use Rattle.std.proofs.Common.{◌≡◌, ◌+◌, ℕ, suc, List, [], ◌++◌, None, inl, inr, sym, subst, ◌∙◌, arith}
use Rattle.std.proofs.lemmas.Bool.{cases_lt}
use Rattle.fx_base.specs.declared.limits.TheConstants.{MOST_SIDE}
use Rattle.fx_outside.specs.Outside.{Files}
use Rattle.fx_seq.specs.Filling.{IsFetchIn, IsFirstFetch, IsQuiet, IsQuietAt, IsTold, first_refused}
use Rattle.fx_seq.specs.Frames.{IsPicture}
use Rattle.fx_seq.specs.Held.{held_frames}
use Rattle.fx_seq.specs.Lists.{ArePictures, used_size}
use Rattle.fx_seq.specs.Moments.{AreOnce, due_at, due_until, held_bytes, moment_refused}
use Rattle.fx_seq.specs.declared.fault.SeqFault.{SeqFault}
use Rattle.fx_seq.specs.declared.fault.SeqFault.TheVariants as seq
use Rattle.fx_seq.specs.declared.source.SourceFrame.{SourceFrame}
use Rattle.fx_seq.specs.declared.store.Store.{Store}
use Rattle.fx_seq.specs.declared.used.Use.{Use}
use Rattle.fx_seq.proofs.FillingLemmas.{quiet_at_more}
use Rattle.fx_seq.proofs.MomentLemmas.{used_are_held}
use Rattle.fx_seq.proofs.Reading.{zip_append}
use Rattle.fx_pipe.proofs.ReadLemmas.{fetch_more}
use Rattle.fx_modes.specs.declared.sources.TheConstants.{MOST_BYTES}
use Rattle.fx_modes.specs.Ended.{calls}
use Rattle.fx_modes.specs.Making.{HoldsScaled}
use Rattle.fx_modes.specs.Sources.{HasSources, IsNotRead}
use Rattle.fx_modes.proofs.ScaledLemmas.{held_as_seen}

module _ (tells : Type 0) (library : Files) (uses : List Use) where
  -- nothing was read
  pub sources_none : (seen : List SourceFrame) → seen ≡ [] → HasSources tells library uses 0 seen
  sources_none seen got =
      record {
        pictures = λ told. subst (λ (ss : List SourceFrame). ArePictures library MOST_SIDE [] ss) (sym got) tt;
        accepted = λ told j low. absurd (omega (arith, low));
      }

  -- memory was wanting
  pub no_memory : (n : ℕ) (a b : ℕ) (x y : List ℕ) (e : SeqFault) → e ≡ seq.Memory → IsNotRead tells library uses n (calls a b x y) e
  no_memory n a b x y e is =
      subst (IsNotRead tells library uses n (calls a b x y)) (sym is)
      (record { told = λ told. tt; first = λ told. tt; fetch = tt; quiet = tt })

  -- after calls of which none failed
  pub not_read_since : (n : ℕ) (a b c : ℕ) (x y z : List ℕ) (e : SeqFault) → IsQuiet a b x y
      → IsNotRead tells library uses n (calls b c y z) e → IsNotRead tells library uses n (calls a c x z) e
  not_read_since n a b c x y z e quiet not =
      record {
        told = not.told;
        first = not.first;
        fetch = fetch_more a b c x y z (due_at uses n) e quiet not.fetch;
        quiet = quiet_at_more a b c x y z e quiet not.quiet;
      }

module _ (tells : Type 0) (library : Files) (uses : List Use) (once : AreOnce uses) where
  module _ (q n : ℕ) (seen : List SourceFrame) (store : Store) (holds : HoldsScaled q uses n seen store)
      (has : HasSources tells library uses n seen) where
    -- what is held is counted as the files that are wanted before and still
    pub held_is : tells → used_size uses n (held_frames store) ≡ held_bytes library uses n
    held_is told =
        held_as_seen q uses n seen store holds ∙ used_are_held uses once library MOST_SIDE n seen holds.seen_are (has.pictures told)

    -- one moment more
    pub sources_more : (mid : Files) → (tells → library ≡ mid) → (held : ℕ) → held ≡ used_size uses n (held_frames store)
        → (frames new : List SourceFrame) → new ≡ seen ++ frames
        → (tells → ArePictures mid MOST_SIDE (due_at uses n) frames)
        → (tells → first_refused mid MOST_SIDE MOST_BYTES held (due_at uses n) ≡ None)
        → HasSources tells library uses (n + 1) new
    sources_more mid same held is frames new got pictures accepted =
        record {
          pictures = λ told.
              let came : ArePictures library MOST_SIDE (due_at uses n) frames =
              subst (λ (f : Files). ArePictures f MOST_SIDE (due_at uses n) frames) (sym (same told)) (pictures told) in
              subst (λ (ss : List SourceFrame). ArePictures library MOST_SIDE (due_until uses (n + 1)) ss) (sym got)
              (subst (λ (m : ℕ). ArePictures library MOST_SIDE (due_until uses m) (seen ++ frames)) next
              (zip_append (λ w s. IsPicture library MOST_SIDE w.name s.image) (due_until uses n) (due_at uses n) seen frames
              (has.pictures told) came));
          accepted = λ told j low. elim (cases_lt j n) [
            | inl before ↦ has.accepted told j before
            | inr behind ↦
                let at : n ≡ j = omega (arith, low, behind) in
                subst (λ (m : ℕ). moment_refused library MOST_SIDE MOST_BYTES uses m ≡ None) at
                (subst (λ (b : ℕ). first_refused library MOST_SIDE MOST_BYTES b (due_at uses n) ≡ None) (is ∙ held_is told)
                (subst (λ (f : Files). first_refused f MOST_SIDE MOST_BYTES held (due_at uses n) ≡ None) (sym (same told)) (accepted told)))
          ];
        }
      where
        next : suc n ≡ n + 1
        next = omega arith

    -- it was not read
    pub not_read : (mid : Files) → (tells → library ≡ mid) → (held : ℕ) → held ≡ used_size uses n (held_frames store)
        → (a b : ℕ) (x y : List ℕ) (e : SeqFault)
        → (tells → IsTold (first_refused mid MOST_SIDE MOST_BYTES held (due_at uses n)) e)
        → (tells → IsFirstFetch mid MOST_SIDE MOST_BYTES held (due_at uses n) e)
        → IsFetchIn a b y (due_at uses n) e → IsQuietAt a b x y e → IsNotRead tells library uses n (calls a b x y) e
    not_read mid same held is a b x y e told_is first fetch quiet =
        record {
          told = λ told.
              subst (λ (s : ℕ). IsTold (first_refused library MOST_SIDE MOST_BYTES s (due_at uses n)) e) (is ∙ held_is told)
              (subst (λ (f : Files). IsTold (first_refused f MOST_SIDE MOST_BYTES held (due_at uses n)) e) (sym (same told)) (told_is told));
          first = λ told.
              subst (λ (s : ℕ). IsFirstFetch library MOST_SIDE MOST_BYTES s (due_at uses n) e) (is ∙ held_is told)
              (subst (λ (f : Files). IsFirstFetch f MOST_SIDE MOST_BYTES held (due_at uses n) e) (sym (same told)) (first told));
          fetch = fetch;
          quiet = quiet;
        }
