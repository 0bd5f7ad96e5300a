-- What is read of a run's moments is what its uses say.
use Rattle.std.proofs.Common.{◌≡◌, ◌≤◌, ◌<◌, ℕ, suc, ◌+◌, List, [], ◌∷◌, ◌++◌, length, None, refl, sym, subst, arith, inl, inr, append_assoc, append-nil}
use Rattle.std.proofs.lemmas.Bool.{cases_lt}
use Rattle.fx_outside.specs.Outside.{Files}
use Rattle.fx_seq.specs.declared.fault.SeqFault.{SeqFault}
use Rattle.fx_seq.specs.declared.source.SourceFrame.{SourceFrame}
use Rattle.fx_seq.specs.Filling.{IsFirstFetch, IsTold, first_refused}
use Rattle.fx_seq.specs.Frames.{IsPicture}
use Rattle.fx_seq.specs.Lists.{AreFramesOf, ArePictures, IsFrameOf, used_size}
use Rattle.fx_seq.specs.Moments.{AreAccepted, AreOnce, due_at, due_until, held_bytes, moment_refused}
use Rattle.fx_seq.proofs.MomentLemmas.{used_are_held}
use Rattle.fx_seq.proofs.Reading.{zip_append}
use Rattle.fx_pipe.specs.declared.schedule.Schedule.{Schedule}
use Rattle.fx_pipe.specs.Moments.{all_of}
use Rattle.fx_pipe.specs.Reads.{AreRead, IsRead, IsUnread}

module _ (tells : Type 0) (files : Files) (p : Schedule) (told : tells) (each : AreOnce p.uses.now) where
  -- these are the frames of the first moments, with the images of their files
  record Has (m : ℕ) (before : List SourceFrame) : Type 0 where
    pub are : AreFramesOf (due_until p.uses.now m) before
    pub pictures : ArePictures files p.most_side (due_until p.uses.now m) before

  has_none : Has 0 []
  has_none = record { are = tt; pictures = tt }

  has_more : (m : ℕ) (before f : List SourceFrame) → Has m before → IsRead tells files p before m f → Has (m + 1) (before ++ f)
  has_more m before f h read =
      let next : suc m ≡ m + 1 = omega arith in
      subst (λ (k : ℕ). Has k (before ++ f)) next (record {
        are = zip_append IsFrameOf (due_until p.uses.now m) (due_at p.uses.now m) before f h.are read.are;
        pictures = zip_append (λ w s. IsPicture files p.most_side w.name s.image) (due_until p.uses.now m) (due_at p.uses.now m) before f h.pictures (read.pictures told);
      })

  size_is : (m : ℕ) (before : List SourceFrame) → Has m before → used_size p.uses.now m before ≡ held_bytes files p.uses.now m
  size_is m before h = used_are_held p.uses.now each files p.most_side m before h.are h.pictures

  accepted_from : (m : ℕ) (before : List SourceFrame) (fs : List (List SourceFrame)) → Has m before → AreRead tells files p before m fs
      → (j : ℕ) → m ≤ j → j < m + length fs → moment_refused files p.most_side p.limit p.uses.now j ≡ None
  accepted_from m before [] h read j low high = absurd (let none : length {A = List SourceFrame} [] ≡ 0 = refl in omega (arith, low, high, none))
  accepted_from m before (f ∷ fs) h read j low high = elim (cases_lt m j) [
    | inl later ↦
        let many : length (f ∷ fs) ≡ length fs + 1 = omega arith in
        accepted_from (m + 1) (before ++ f) fs (has_more m before f h read.0) read.1 j (omega (arith, later)) (omega (arith, high, many))
    | inr here ↦
        let same : m ≡ j = omega (arith, low, here) in
        subst (λ (k : ℕ). moment_refused files p.most_side p.limit p.uses.now k ≡ None) same
        (subst (λ (n : ℕ). first_refused files p.most_side p.limit n (due_at p.uses.now m) ≡ None) (size_is m before h) (read.0.accepted told))
  ]

  has_all : (m : ℕ) (before : List SourceFrame) (fs : List (List SourceFrame)) → Has m before → AreRead tells files p before m fs
      → Has (m + length fs) (before ++ all_of fs)
  has_all m before [] h read =
      let at : m ≡ m + length {A = List SourceFrame} [] = omega arith in
      subst (λ (k : ℕ). Has k (before ++ [])) at (subst (λ (xs : List SourceFrame). Has m xs) (sym (append-nil before)) h)
  has_all m before (f ∷ fs) h read =
      let at : m + 1 + length fs ≡ m + length (f ∷ fs) = omega arith in
      subst (λ (k : ℕ). Has k (before ++ (f ++ all_of fs))) at
      (subst (λ (xs : List SourceFrame). Has (m + 1 + length fs) xs) (append_assoc before f (all_of fs))
      (has_all (m + 1) (before ++ f) fs (has_more m before f h read.0) read.1))

  -- the frames of the first moments have the images of their files
  pub pictures_read : (fs : List (List SourceFrame)) → AreRead tells files p [] 0 fs
      → ArePictures files p.most_side (due_until p.uses.now (length fs)) (all_of fs)
  pictures_read fs read =
      let at : 0 + length fs ≡ length fs = omega arith in
      subst (λ (k : ℕ). ArePictures files p.most_side (due_until p.uses.now k) (all_of fs)) at
      (has_all 0 [] fs has_none read).pictures

  pub read_accepted : (fs : List (List SourceFrame)) → AreRead tells files p [] 0 fs
      → AreAccepted files p.most_side p.limit p.uses.now (length fs)
  read_accepted fs read j low = accepted_from 0 [] fs has_none read j (omega arith) (omega (arith, low))

  -- what is held before the next moment
  pub held_then : (fs : List (List SourceFrame)) → AreRead tells files p [] 0 fs
      → used_size p.uses.now (length fs) (all_of fs) ≡ held_bytes files p.uses.now (length fs)
  held_then fs read =
      let at : 0 + length fs ≡ length fs = omega arith in
      size_is (length fs) (all_of fs) (subst (λ (k : ℕ). Has k (all_of fs)) at (has_all 0 [] fs has_none read))

  pub unread_refused : (fs : List (List SourceFrame)) (e : SeqFault) → AreRead tells files p [] 0 fs
      → IsUnread tells files p (all_of fs) (length fs) e
      → IsTold (moment_refused files p.most_side p.limit p.uses.now (length fs)) e
      × (let held = held_bytes files p.uses.now (length fs) in
      IsFirstFetch files p.most_side p.limit held (due_at p.uses.now (length fs)) e)
  unread_refused fs e read unread =
      let size = held_then fs read in
      let due = due_at p.uses.now (length fs) in (
        subst (λ (n : ℕ). IsTold (first_refused files p.most_side p.limit n due) e) size (unread.told told),
        subst (λ (n : ℕ). IsFirstFetch files p.most_side p.limit n due e) size (unread.first told),
      )

-- ---- what is due, whatever the library tells

module _ (tells : Type 0) (files : Files) (p : Schedule) where
  frames_from : (m : ℕ) (before : List SourceFrame) (fs : List (List SourceFrame)) → AreFramesOf (due_until p.uses.now m) before
      → AreRead tells files p before m fs → AreFramesOf (due_until p.uses.now (m + length fs)) (before ++ all_of fs)
  frames_from m before [] are read =
      let at : m ≡ m + length {A = List SourceFrame} [] = omega arith in
      subst (λ (k : ℕ). AreFramesOf (due_until p.uses.now k) (before ++ [])) at
      (subst (λ (xs : List SourceFrame). AreFramesOf (due_until p.uses.now m) xs) (sym (append-nil before)) are)
  frames_from m before (f ∷ fs) are read =
      let at : m + 1 + length fs ≡ m + length (f ∷ fs) = omega arith in
      let next : suc m ≡ m + 1 = omega arith in
      let more : AreFramesOf (due_until p.uses.now (m + 1)) (before ++ f) =
      subst (λ (k : ℕ). AreFramesOf (due_until p.uses.now k) (before ++ f)) next
      (zip_append IsFrameOf (due_until p.uses.now m) (due_at p.uses.now m) before f are read.0.are) in
      subst (λ (k : ℕ). AreFramesOf (due_until p.uses.now k) (before ++ (f ++ all_of fs))) at
      (subst (λ (xs : List SourceFrame). AreFramesOf (due_until p.uses.now (m + 1 + length fs)) xs) (append_assoc before f (all_of fs))
      (frames_from (m + 1) (before ++ f) fs more read.1))

  -- the frames of the first moments, moment by moment
  pub frames_read : (fs : List (List SourceFrame)) → AreRead tells files p [] 0 fs → AreFramesOf (due_until p.uses.now (length fs)) (all_of fs)
  frames_read fs read =
      let at : 0 + length fs ≡ length fs = omega arith in
      subst (λ (k : ℕ). AreFramesOf (due_until p.uses.now k) (all_of fs)) at (frames_from 0 [] fs tt read)

  due_from : (m : ℕ) (before : List SourceFrame) (fs : List (List SourceFrame)) (f : List SourceFrame) (rest : List (List SourceFrame))
      → AreRead tells files p before m (fs ++ f ∷ rest) → AreFramesOf (due_at p.uses.now (m + length fs)) f
  due_from m before [] f rest read =
      let at : m ≡ m + length {A = List SourceFrame} [] = omega arith in
      subst (λ (k : ℕ). AreFramesOf (due_at p.uses.now k) f) at read.0.are
  due_from m before (g ∷ fs) f rest read =
      let at : m + 1 + length fs ≡ m + length (g ∷ fs) = omega arith in
      subst (λ (k : ℕ). AreFramesOf (due_at p.uses.now k) f) at (due_from (m + 1) (before ++ g) fs f rest read.1)

  -- the frames of the moment behind them
  pub next_is_due : (fs : List (List SourceFrame)) (f : List SourceFrame) (rest : List (List SourceFrame))
      → AreRead tells files p [] 0 (fs ++ f ∷ rest) → AreFramesOf (due_at p.uses.now (length fs)) f
  next_is_due fs f rest read =
      let at : 0 + length fs ≡ length fs = omega arith in
      subst (λ (k : ℕ). AreFramesOf (due_at p.uses.now k) f) at (due_from 0 [] fs f rest read)
