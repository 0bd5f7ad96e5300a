-- Which of the wanted frames is the first that is refused, and why.
use Rattle.std.specs.Prelude.{◌≡◌, ℕ, ◌+◌, ◌*◌, nat_lt, List, [], ◌∷◌, ◌++◌, Option, Some, None, if◌then◌else◌, sum_by, Contains}
use Rattle.std.specs.Option.{option_or, option_map_or}
use Rattle.fx_pixel.specs.declared.Depth.{Depth}
use Rattle.fx_pixel.specs.Pixel.{size}
use Rattle.fx_outside.specs.Outside.{Files, HasRisen}
use Rattle.fx_pam.specs.declared.fault.PamFault.{PamFault}
use Rattle.fx_pam.specs.Header.{HeaderReading, Reads, IsWrongAt}
use Rattle.fx_pam.specs.Reading.{header_with, header_in, depth_of, pam_fault}
use Rattle.fx_seq.specs.declared.wanted.Wanted.{Wanted}
use Rattle.fx_seq.specs.declared.fault.SeqFault.{SeqFault}
use Rattle.fx_seq.specs.declared.fault.SeqFault.TheVariants.{Fetch, Frame, TooLarge, Memory}

-- they stand under two places: their nodes or their frames differ
abbrev pub IsApart : Wanted → Wanted → Type 0
IsApart v w = v.node ≡ w.node → v.frame ≡ w.frame → ⊥

-- how many bytes a frame's pixels have, with 4 samples each
abbrev pub frame_size : ℕ → ℕ → Depth → ℕ
frame_size width height depth = width * height * 4 * size depth

-- the size that a header tells
abbrev pub header_size : HeaderReading → ℕ
header_size (Reads numbers behind) = frame_size numbers.width numbers.height (depth_of (header_with numbers behind))
header_size (IsWrongAt line) = 0

-- the size of the frame under a name
abbrev pub size_under : Files → List ℕ → ℕ
size_under files name = option_map_or (λ bytes. header_size (header_in bytes)) (files name) 0

-- a frame's own fault comes before the sum of the sizes up to it
abbrev pub refusal_read : ℕ → Wanted → ℕ → Option PamFault → Option SeqFault
refusal_read limit w sum (Some fault) = Some (Frame w.node w.frame fault)
refusal_read limit w sum None = if nat_lt limit sum then Some (TooLarge w.node w.frame sum) else None

-- a name without bytes is refused
abbrev pub refusal_of : ℕ → ℕ → Wanted → ℕ → Option (List ℕ) → Option SeqFault
refusal_of side limit w sum None = Some (Fetch w.node w.frame w.name)
refusal_of side limit w sum (Some bytes) = refusal_read limit w sum (pam_fault bytes side)

-- Why a wanted frame is refused, where the frames before it have `sum` bytes.
abbrev pub refusal : Files → ℕ → ℕ → ℕ → Wanted → Option SeqFault
refusal files side limit sum w = refusal_of side limit w (sum + size_under files w.name) (files w.name)

-- the first refusal of a list, where the frames before it have `sum` bytes
abbrev pub first_refused : Files → ℕ → ℕ → ℕ → List Wanted → Option SeqFault
first_refused files side limit sum [] = None
first_refused files side limit sum (w ∷ ws) =
    option_or (refusal files side limit sum w) (first_refused files side limit (sum + size_under files w.name) ws)

-- no call failed: the count of faults and the last name that failed are as before
pub record IsQuiet (before now : ℕ) (was last : List ℕ) : Type 0 where
  pub count : now ≡ before
  pub last_one : last ≡ was

-- a fault of a file, or of the sum, is answered only where no fetch failed
abbrev pub IsQuietAt : ℕ → ℕ → List ℕ → List ℕ → SeqFault → Type 0
IsQuietAt before now was last (Fetch node frame name) = Unit {0}
IsQuietAt before now was last (Frame node frame fault) = IsQuiet before now was last
IsQuietAt before now was last (TooLarge node frame sum) = IsQuiet before now was last
IsQuietAt before now was last Memory = Unit {0}

-- an answered fault of a file, or of the sum, is the one told
abbrev pub IsTold : Option SeqFault → SeqFault → Type 0
IsTold told (Fetch node frame name) = Unit {0}
IsTold told (Frame node frame fault) = told ≡ Some (Frame node frame fault)
IsTold told (TooLarge node frame sum) = told ≡ Some (TooLarge node frame sum)
IsTold told Memory = Unit {0}

-- The fetch of this wanted frame failed: the count of faults rose, and the last name that failed is the frame's.
abbrev pub IsFetchOf : ℕ → ℕ → List ℕ → Wanted → SeqFault → Type 0
IsFetchOf before now last w (Fetch node frame name) =
    HasRisen before now × (last ≡ name) × (w ≡ record { node = node; frame = frame; name = name })
IsFetchOf before now last w (Frame node frame fault) = Unit {0}
IsFetchOf before now last w (TooLarge node frame sum) = Unit {0}
IsFetchOf before now last w Memory = Unit {0}

-- the same, of one of the wanted frames
abbrev pub IsFetchIn : ℕ → ℕ → List ℕ → List Wanted → SeqFault → Type 0
IsFetchIn before now last wanted (Fetch node frame name) =
    HasRisen before now × (last ≡ name) × Contains wanted (record { node = node; frame = frame; name = name })
IsFetchIn before now last wanted (Frame node frame fault) = Unit {0}
IsFetchIn before now last wanted (TooLarge node frame sum) = Unit {0}
IsFetchIn before now last wanted Memory = Unit {0}

-- the call came as far as this wanted frame: none before it is refused, where those held before have `sum` bytes
pub record ComesTo (files : Files) (side limit sum : ℕ) (wanted : List Wanted) (w : Wanted) : Type 0 where
  pub before : List Wanted
  pub after : List Wanted
  pub split : wanted ≡ before ++ w ∷ after
  pub accepted : first_refused files side limit sum before ≡ None

-- at a fetch that failed, none of the wanted frames before is refused
abbrev pub IsFirstFetch : Files → ℕ → ℕ → ℕ → List Wanted → SeqFault → Type 0
IsFirstFetch files side limit sum wanted (Fetch node frame name) =
    ComesTo files side limit sum wanted (record { node = node; frame = frame; name = name })
IsFirstFetch files side limit sum wanted (Frame node frame fault) = Unit {0}
IsFirstFetch files side limit sum wanted (TooLarge node frame all) = Unit {0}
IsFirstFetch files side limit sum wanted Memory = Unit {0}

-- a wanted frame's name has bytes, and they have no fault
abbrev pub IsReadable : Files → ℕ → Wanted → Type 0
IsReadable files side w = (bytes : List ℕ) × (files w.name ≡ Some bytes) × (pam_fault bytes side ≡ None)

-- how many bytes the pixels of the wanted frames have
abbrev pub wanted_size : Files → List Wanted → ℕ
wanted_size files wanted = sum_by (λ w. size_under files w.name) wanted

-- one of the wanted frames is refused for this, and none before it
pub record RefusedAt (files : Files) (side limit : ℕ) (wanted : List Wanted) (e : SeqFault) : Type 0 where
  pub before : List Wanted
  pub one : Wanted
  pub after : List Wanted
  pub split : wanted ≡ before ++ one ∷ after
  pub accepted : first_refused files side limit 0 before ≡ None
  pub refused : refusal files side limit (wanted_size files before) one ≡ Some e
