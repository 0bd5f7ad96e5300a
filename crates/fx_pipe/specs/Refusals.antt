-- What is read of a run's moments is what its uses say: what is held, and which source frame is refused.
use Rattle.std.specs.Prelude.{List, [], ◌∷◌, ◌++◌, length}
use Rattle.fx_outside.specs.Outside.{Files}
use Rattle.fx_seq.specs.Filling.{IsFirstFetch, IsTold}
use Rattle.fx_seq.specs.Lists.{AreFramesOf}
use Rattle.fx_seq.specs.Moments.{AreAccepted, due_at, due_until, held_bytes, moment_refused}
use Rattle.fx_seq.specs.declared.fault.SeqFault.{SeqFault}
use Rattle.fx_seq.specs.declared.source.SourceFrame.{SourceFrame}
use Rattle.fx_pipe.specs.declared.schedule.Schedule.{Schedule}
use Rattle.fx_pipe.specs.Moments.{all_of}
use Rattle.fx_pipe.specs.Reads.{AreRead, IsUnread}

-- of the moments whose frames were read none is refused
abbrev pub ReadAreAccepted : Files → Schedule → Type 0
ReadAreAccepted files p =
    (fs : List (List SourceFrame)) → AreRead (Unit {0}) files p [] 0 fs
    → AreAccepted files p.most_side p.limit p.uses.now (length fs)

-- and the first whose frames were not read is refused for this fault, or by a fetch that failed
abbrev pub UnreadIsRefused : Files → Schedule → Type 0
UnreadIsRefused files p =
    (fs : List (List SourceFrame)) (e : SeqFault) → AreRead (Unit {0}) files p [] 0 fs
    → IsUnread (Unit {0}) files p (all_of fs) (length fs) e
    → IsTold (moment_refused files p.most_side p.limit p.uses.now (length fs)) e
    × (let held = held_bytes files p.uses.now (length fs) in
    IsFirstFetch files p.most_side p.limit held (due_at p.uses.now (length fs)) e)

-- they are the frames that are due at the first moments, and those that come next are due next
pub record ReadAreDue (files : Files) (p : Schedule) : Type 0 where
  pub first :
      (fs : List (List SourceFrame)) → AreRead (Unit {0}) files p [] 0 fs
      → AreFramesOf (due_until p.uses.now (length fs)) (all_of fs)
  pub next :
      (fs : List (List SourceFrame)) (f : List SourceFrame) (rest : List (List SourceFrame))
      → AreRead (Unit {0}) files p [] 0 (fs ++ f ∷ rest) → AreFramesOf (due_at p.uses.now (length fs)) f
