-- The keys of a parameter: frames with their values, the frames rising. So they are a map from frames to values.
use Rattle.std.specs.Prelude.{◌≡◌, ◌≢◌, ℕ, ◌<◌, ◌≤◌, ℤ, pos, ◌<ℤ◌, ◌≤ℤ◌, not, List, [], ◌∷◌, length, slice_index_or, filter, AllPairs, Option, Some, None, if◌then◌else◌}
use Rattle.std.specs.Ordering.{int_eq}
use Rattle.std.specs.Int.Signed.{lt_z}
use Rattle.fx_params.specs.declared.key.Key.{Key}

-- the frames rise, so no frame comes twice
abbrev pub IsRising : List Key → Type 0
IsRising keys = AllPairs (λ a b. a.frame <ℤ b.frame) keys

-- the value of the key at the frame
abbrev pub key_at : List Key → ℤ → Option ℤ
key_at [] frame = None
key_at (key ∷ keys) frame = if int_eq key.frame frame then Some key.value else key_at keys frame

-- the keys are the same map but at one frame, where this value stands now, or no key
pub record ChangesKey (old new : List Key) (frame : ℤ) (value : Option ℤ) : Type 0 where
  pub at_frame : key_at new frame ≡ value
  pub elsewhere : (f : ℤ) → f ≢ frame → key_at new f ≡ key_at old f

-- the keys with this one in its place by rising frame, new or in place of the old one
abbrev pub with_key : List Key → Key → List Key
with_key [] new = new ∷ []
with_key (key ∷ keys) new =
    if lt_z key.frame new.frame then key ∷ with_key keys new
    else (if int_eq key.frame new.frame then new ∷ keys else new ∷ key ∷ keys)

-- the keys but the one at the frame
abbrev pub without_key : List Key → ℤ → List Key
without_key keys frame = filter (λ key. not (int_eq key.frame frame)) keys

-- read past the end of a list
abbrev pub no_key : Key
no_key = record { frame = pos 0; value = pos 0 }

-- the frame of the key at a place
abbrev pub frame_at : List Key → ℕ → ℤ
frame_at keys i = (slice_index_or keys i no_key).frame

-- the key at the place stands at the frame
pub record IsAt (keys : List Key) (frame : ℤ) (i : ℕ) : Type 0 where
  pub in_range : i < length keys
  pub has_frame : frame_at keys i ≡ frame

-- a key of the frame would go to the place: earlier keys before it, and later keys from it on
pub record IsGapFor (keys : List Key) (frame : ℤ) (i : ℕ) : Type 0 where
  pub in_range : i ≤ length keys
  pub earlier_before : (j : ℕ) → j < i → frame_at keys j <ℤ frame
  pub later_after : (j : ℕ) → i ≤ j → j < length keys → frame <ℤ frame_at keys j

-- so many keys stand at the frame or before it
pub record IsPassed (keys : List Key) (frame : ℤ) (n : ℕ) : Type 0 where
  pub in_range : n ≤ length keys
  pub before : (j : ℕ) → j < n → frame_at keys j ≤ℤ frame
  pub after : (j : ℕ) → n ≤ j → j < length keys → frame <ℤ frame_at keys j
