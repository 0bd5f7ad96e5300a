-- The moments of a run, which are numbered from 0: what each is the first to want, what is held then, and which source
-- frame is refused.
use Rattle.std.specs.Prelude.{◌≡◌, ◌<◌, ◌≤◌, ℕ, zero, suc, ℤ, ◌&&◌, nat_eq, nat_lt, nat_le, Bool, List, [], ◌++◌, map, filter, sum_by, All, AllPairs, Option, Some, None, if◌then◌else◌}
use Rattle.std.specs.List.{list_any}
use Rattle.std.specs.Ordering.{int_eq}
use Rattle.fx_outside.specs.Outside.{Files}
use Rattle.fx_seq.specs.declared.fault.SeqFault.{SeqFault}
use Rattle.fx_seq.specs.declared.used.Use.{Use}
use Rattle.fx_seq.specs.declared.wanted.Wanted.{Wanted}
use Rattle.fx_seq.specs.Filling.{IsApart, first_refused, size_under}

-- each node's frame stands once, and the last moment that wants it is not before the first
pub record AreOnce (uses : List Use) : Type 0 where
  pub apart : AllPairs (λ u v. IsApart u.wanted v.wanted) uses
  pub order : All (λ u. u.from ≤ u.until) uses

-- the frames that are wanted from this moment on, in the order of the uses
abbrev pub due_at : List Use → ℕ → List Wanted
due_at uses moment = map (λ u. u.wanted) (filter (λ u. nat_eq u.from moment) uses)

-- those that are wanted from one of the first moments on, moment by moment
abbrev pub due_until : List Use → ℕ → List Wanted
due_until uses zero = []
due_until uses (suc moment) = due_until uses moment ++ due_at uses moment

-- whether a node's frame is used at the moment or later
abbrev pub is_used : List Use → ℕ → ℕ → ℤ → Bool
is_used uses moment n f =
    list_any (λ u. (nat_le moment u.until && nat_eq u.wanted.node n) && int_eq u.wanted.frame f) uses

-- how many bytes are held at a moment: those of the files that were wanted before it and are wanted at it or later
abbrev pub held_bytes : Files → List Use → ℕ → ℕ
held_bytes files uses moment =
    sum_by (λ u. if nat_lt u.from moment && nat_le moment u.until then size_under files u.wanted.name else 0) uses

-- the first frame that is refused of those that are due at a moment
abbrev pub moment_refused : Files → ℕ → ℕ → List Use → ℕ → Option SeqFault
moment_refused files side limit uses moment =
    first_refused files side limit (held_bytes files uses moment) (due_at uses moment)

-- none is refused at the first moments
abbrev pub AreAccepted : Files → ℕ → ℕ → List Use → ℕ → Type 0
AreAccepted files side limit uses count = (j : ℕ) → j < count → moment_refused files side limit uses j ≡ None

-- the run is refused at this moment, and at none before it
pub record IsRefusedAt (files : Files) (side limit : ℕ) (uses : List Use) (moment : ℕ) (e : SeqFault) : Type 0 where
  pub before : AreAccepted files side limit uses moment
  pub here : moment_refused files side limit uses moment ≡ Some e
