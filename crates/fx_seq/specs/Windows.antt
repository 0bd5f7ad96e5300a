-- What is known of a store that goes from moment to moment.
use Rattle.std.specs.Prelude.{◌≡◌, ◌≤◌, ◌+◌, ◌++◌, ℕ, List, [], filter, Contains, IsSome}
use Rattle.fx_outside.specs.Outside.{Files}
use Rattle.fx_seq.specs.declared.source.SourceFrame.{SourceFrame}
use Rattle.fx_seq.specs.declared.store.Store.{Store}
use Rattle.fx_seq.specs.declared.used.Use.{Use}
use Rattle.fx_seq.specs.Held.{HasRead, fetched, got_frames, held, held_frames}
use Rattle.fx_seq.specs.Lists.{AreFramesOf, ArePictures, IsNew, frames_in, is_used_frame, size_of_all, used_size}
use Rattle.fx_seq.specs.Moments.{due_at, due_until, held_bytes}

-- what is due at a moment was never read before
abbrev pub DueIsNew : List Use → Type 0
DueIsNew uses =
    (moment : ℕ) (got came : List SourceFrame) → AreFramesOf (due_until uses moment) got
    → AreFramesOf (due_at uses moment) came → IsNew (frames_in got) came

-- of the frames that were read those that are used at a moment or later have the bytes that are held then
abbrev pub UsedAreHeld : List Use → Type 0
UsedAreHeld uses =
    (files : Files) (side moment : ℕ) (got : List SourceFrame) → AreFramesOf (due_until uses moment) got
    → ArePictures files side (due_until uses moment) got → used_size uses moment got ≡ held_bytes files uses moment

-- and all of them are held
abbrev pub HeldAreUsed : List Use → Type 0
HeldAreUsed uses =
    (moment : ℕ) (store : Store) → HasRead uses moment store
    → used_size uses moment (held_frames store) ≡ used_size uses moment (got_frames store)

-- a store that holds nothing and never got any frame stands at the first moment
abbrev pub Begins : List Use → Type 0
Begins uses = (store : Store) → held_frames store ≡ [] → got_frames store ≡ [] → HasRead uses 0 store

-- a moment's frames came, and those are left that it uses, or a later one
pub record HasTaken (uses : List Use) (moment : ℕ) (came : List SourceFrame) (old new : Store) : Type 0 where
  pub due : AreFramesOf (due_at uses moment) came
  pub held : held_frames new ≡ filter (is_used_frame uses moment) (held_frames old) ++ came
  pub got : got_frames new ≡ got_frames old ++ came

-- then the store stands at the next moment
abbrev pub GoesOn : List Use → Type 0
GoesOn uses =
    (moment : ℕ) (came : List SourceFrame) (old new : Store) → HasTaken uses moment came old new
    → HasRead uses moment old → HasRead uses (moment + 1) new

-- where it has no more bytes that are still used than before, and those that came
abbrev pub StaysSmall : List Use → Type 0
StaysSmall uses =
    (moment : ℕ) (came : List SourceFrame) (old new : Store) → HasTaken uses moment came old new
    → used_size uses (moment + 1) (held_frames new) ≤ used_size uses moment (held_frames old) + size_of_all came

-- and holds each frame that the moment uses, as it was read
abbrev pub HoldsUsed : List Use → Type 0
HoldsUsed uses =
    (moment : ℕ) (store : Store) → HasRead uses (moment + 1) store
    → (u : Use) → Contains uses u → u.from ≤ moment → moment ≤ u.until
    → IsSome (held store u.wanted.node u.wanted.frame)
    × (held store u.wanted.node u.wanted.frame ≡ fetched store u.wanted.node u.wanted.frame)
