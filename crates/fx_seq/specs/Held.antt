-- What a store holds, and what it ever got.
use Rattle.std.specs.Prelude.{◌≡◌, ◌-◌, ℕ, List, filter}
use Rattle.fx_seq.specs.declared.source.SourceFrame.{SourceFrame}
use Rattle.fx_seq.specs.declared.store.Store.{Store}
use Rattle.fx_seq.specs.declared.used.Use.{Use}
use Rattle.fx_seq.specs.Frames.{Frames}
use Rattle.fx_seq.specs.Lists.{AreFramesOf, frames_in, is_used_frame, seen_in, size_of_all}
use Rattle.fx_seq.specs.Moments.{due_until}

-- the frames that are held
abbrev pub held_frames : Store → List SourceFrame
held_frames store = store.frames.items

-- those that the store ever got, in their order
abbrev pub got_frames : Store → List SourceFrame
got_frames store = seen_in store.got.items

-- the image that is held of a node's frame
abbrev pub held : Store → Frames
held store = frames_in (held_frames store)

-- the image that the store ever got of a node's frame
abbrev pub fetched : Store → Frames
fetched store = frames_in (got_frames store)

-- how many bytes all the frames that are held are counted as
abbrev pub held_size : Store → ℕ
held_size store = size_of_all (held_frames store)

-- the store is as before
pub record SameStore (old new : Store) : Type 0 where
  pub frames : held_frames new ≡ held_frames old
  pub got : got_frames new ≡ got_frames old

-- Between two moments: the store got the frames of the moments before, moment by moment, and holds those of them that the
-- last of these moments uses, or a later one
pub record HasRead (uses : List Use) (moment : ℕ) (store : Store) : Type 0 where
  pub got : AreFramesOf (due_until uses moment) (got_frames store)
  pub held : held_frames store ≡ filter (is_used_frame uses (moment - 1)) (got_frames store)
