-- What stands in a set that an action wrote to.
use Rattle.std.specs.Prelude.{ℕ, ℤ, List, All}
use Rattle.fx_base.specs.Bounds.{Bounds, IsRect}
use Rattle.fx_props.specs.declared.value.PropKind.TheVariants as kind
use Rattle.fx_props.specs.Set.{Set}
use Rattle.fx_props.specs.Entries.{Entry, region_values, range_values, HasValues, interest, frame_ranges}

-- a region under this name
abbrev pub region_entry : List ℕ → Bounds → Entry
region_entry name r = record { name = name; kind = kind.Fix; values = region_values r }

-- frames under this name
abbrev pub frames_entry : List ℕ → List (ℤ × ℤ) → Entry
frames_entry name spans = record { name = name; kind = kind.Fix; values = range_values spans }

-- the set has a region of this name
pub record ShowsRegion (set : Set) (name : List ℕ) : Type 0 where
  pub region : Bounds
  pub rect : IsRect region
  pub there : HasValues set (region_entry name region)

-- the set has frames of this name
pub record ShowsFrames (set : Set) (name : List ℕ) : Type 0 where
  pub spans : List (ℤ × ℤ)
  pub there : HasValues set (frames_entry name spans)

-- the set has these regions of interest, one for each clip
pub record IsInterest (set : Set) (names : List (List ℕ)) (regions : ℕ → Bounds) : Type 0 where
  pub rects : (clip : ℕ) → IsRect (regions clip)
  pub there : All (HasValues set) (interest names regions)

pub record ShowsInterest (set : Set) (names : List (List ℕ)) : Type 0 where
  pub regions : ℕ → Bounds
  pub are : IsInterest set names regions

-- the set has these frames, some for each clip
abbrev pub AreFrames : Set → List (List ℕ) → (ℕ → List (ℤ × ℤ)) → Type 0
AreFrames set names spans = All (HasValues set) (frame_ranges names spans)

pub record ShowsAllFrames (set : Set) (names : List (List ℕ)) : Type 0 where
  pub spans : ℕ → List (ℤ × ℤ)
  pub are : AreFrames set names spans
