-- What was read of the moments of a schedule, and why a moment's frames were not.
use Rattle.std.specs.Prelude.{◌≡◌, Bool, ℕ, ℤ, ◌+◌, ◌≤◌, ◌^◌, List, [], ◌∷◌, ◌++◌, length, map, sum_by, if◌then◌else◌, Option, None, Some, IfSome, IfNone, ◌<◌}
use Rattle.fx_base.specs.declared.limits.TheConstants.{MOST_SIDE}
use Rattle.fx_outside.specs.Outside.{Files, SameFiles}
use Rattle.fx_seq.specs.declared.fault.SeqFault.{SeqFault}
use Rattle.fx_seq.specs.Filling.{first_refused, IsFetchIn, IsQuiet, IsQuietAt, IsTold}
use Rattle.fx_seq.specs.declared.source.SourceFrame.{SourceFrame}
use Rattle.fx_seq.specs.declared.used.Use.{Use}
use Rattle.fx_seq.specs.Lists.{AreFramesOf, ArePictures, used_size}
use Rattle.fx_seq.specs.Moments.{due_at, is_used}
use Rattle.fx_seq.specs.Filling.{IsFirstFetch}
use Rattle.fx_pipe.specs.declared.schedule.Schedule.{Schedule}
use Rattle.fx_pipe.specs.declared.read.Kept.{Kept}
use Rattle.fx_pipe.specs.declared.read.Reader.{Reader}
use Rattle.fx_pipe.specs.Moments.{all_of}

-- limits that frames are read within
pub record IsSchedule (p : Schedule) : Type 0 where
  pub limit : p.limit ≤ 2 ^ 62
  pub side : p.most_side ≤ MOST_SIDE

-- the nodes and frames that are due at a moment
abbrev pub due_places : List Use → ℕ → List (ℕ × ℤ)
due_places uses m = map (λ w. (w.node, w.frame)) (due_at uses m)

-- what is refused first at a moment, where these frames were read before
abbrev pub IsAcceptedAt : Files → Schedule → List SourceFrame → ℕ → Type 0
IsAcceptedAt files p before m =
    first_refused files p.most_side p.limit (used_size p.uses.now m before) (due_at p.uses.now m) ≡ None

-- the frames that are due at a moment were read, where these were read before
pub record IsRead (tells : Type 0) (files : Files) (p : Schedule) (before : List SourceFrame) (m : ℕ)
    (frames : List SourceFrame) : Type 0 where
  pub are : AreFramesOf (due_at p.uses.now m) frames
  pub pictures : tells → ArePictures files p.most_side (due_at p.uses.now m) frames
  pub accepted : tells → IsAcceptedAt files p before m

-- the same of the moments from m on, one after the other
abbrev pub AreRead : Type 0 → Files → Schedule → List SourceFrame → ℕ → List (List SourceFrame) → Type 0
AreRead tells files p before m [] = Unit {0}
AreRead tells files p before m (f ∷ fs) =
    IsRead tells files p before m f × AreRead tells files p (before ++ f) (m + 1) fs

-- the frames that are due at a moment were not read
pub record IsUnread (tells : Type 0) (files : Files) (p : Schedule) (before : List SourceFrame) (m : ℕ)
    (e : SeqFault) : Type 0 where
  pub told :
      let used = used_size p.uses.now m before in
      tells → IsTold (first_refused files p.most_side p.limit used (due_at p.uses.now m)) e
  pub first : tells → IsFirstFetch files p.most_side p.limit (used_size p.uses.now m before) (due_at p.uses.now m) e

-- ---- what the reader knows

abbrev pub kept_of : SourceFrame → Kept
kept_of s = record { node = s.node; frame = s.frame; size = s.size }

-- whether a frame is used at the moment or later
abbrev pub is_kept : List Use → ℕ → Kept → Bool
is_kept uses m k = is_used uses m k.node k.frame

-- how many bytes the frames are counted as that are used at the moment or later
abbrev pub kept_size : List Use → ℕ → List Kept → ℕ
kept_size uses m kept = sum_by (λ k. if is_used uses m k.node k.frame then k.size else 0) kept

-- the next moment is behind those whose frames were read, and their sizes are known
pub record Knows (p : Schedule) (fs : List (List SourceFrame)) (r : Reader) : Type 0 where
  pub next : r.next ≡ length fs
  pub sizes : (j : ℕ) → r.next ≤ j → kept_size p.uses.now j r.kept.items ≡ used_size p.uses.now j (all_of fs)

-- ---- what a reader did in a round

-- what a fault shows of the library
pub record ShowsFault (before now : ℕ) (was last : List ℕ) (p : Schedule) (m : ℕ) (e : SeqFault) : Type 0 where
  pub fetch : IsFetchIn before now last (due_at p.uses.now m) e
  pub quiet : IsQuietAt before now was last e

-- A block was read, up to the first moment whose frames were not. Where there was a fault before, nothing was
pub record ReadsOn (tells : Type 0) (files : Files) (before now : ℕ) (was last : List ℕ) (p : Schedule)
    (old new : Reader) (fault fault' : Option SeqFault) (block : List (List SourceFrame)) : Type 0 where
  pub read :
      (start : Files) (fs : List (List SourceFrame)) → (tells → SameFiles start files) → Knows p fs old
      → AreRead tells start p (all_of fs) old.next block × Knows p (fs ++ block) new
  pub unread :
      (start : Files) (fs : List (List SourceFrame)) → (tells → SameFiles start files) → Knows p fs old → fault ≡ None
      → IfSome fault' (λ e. IsUnread tells start p (all_of (fs ++ block)) new.next e)
  pub next : new.next ≤ p.moments
  pub before_last : fault ≡ None → IfSome fault' (λ e. new.next < p.moments)
  pub few : kept_size p.uses.now new.next new.kept.items ≤ p.limit
  pub quiet : IfNone fault' (IsQuiet before now was last)
  pub shows : fault ≡ None → IfSome fault' (λ e. ShowsFault before now was last p new.next e)
  pub stays : IfSome fault (λ e. (fault' ≡ Some e) × (new ≡ old) × (block ≡ []) × IsQuiet before now was last)
