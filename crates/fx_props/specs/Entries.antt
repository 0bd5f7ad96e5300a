-- Properties with their values, as they come into a set and stand in it (OpenFX 1.4, "Image Effect Actions").
use Rattle.std.specs.Prelude.{◌≡◌, ◌≢◌, ◌≤◌, ℕ, suc, ℤ, pos, ◌*ℤ◌, Bool, List, [], ◌∷◌, ◌++◌, map, take, length, slice_index_or, All, AllPairs, Some, if◌then◌else◌}
use Rattle.std.specs.Borrow.{Bor}
use Rattle.fx_base.specs.Bounds.{Bounds, IsRect, none}
use Rattle.fx_base.specs.Rect.{IsStep}
use Rattle.fx_props.specs.declared.names.TheConstants.{CLIP_REGION, CLIP_FRAMES}
use Rattle.fx_props.specs.declared.value.PropKind.{PropKind}
use Rattle.fx_props.specs.declared.value.PropKind.TheVariants as kind
use Rattle.fx_props.specs.declared.value.PropValue.{PropValue}
use Rattle.fx_props.specs.declared.value.PropValue.TheVariants as value
use Rattle.fx_props.specs.declared.def.PropDef.{PropDef}
use Rattle.fx_props.specs.Value.{kind_of}
use Rattle.fx_props.specs.Property.{Property, with_values}
use Rattle.fx_props.specs.Set.{Set, property, values_of}

-- a property with its values
pub record Entry : Type 0 where
  pub name : List ℕ
  pub kind : PropKind
  pub values : List PropValue

-- the values are of the kind, and not more than a property may have
pub record IsEntry (e : Entry) : Type 0 where
  pub of_kind : All (λ v. kind_of v ≡ e.kind) e.values
  pub few : length e.values ≤ 4294967295

-- no two have one name
abbrev pub NamesDiffer : List Entry → Type 0
NamesDiffer entries = AllPairs (λ a b. a.name ≢ b.name) entries

-- the definition that starts with these values, and that takes any number of any values
abbrev pub def_of : Entry → PropDef
def_of e = record { name = e.name; kind = e.kind; most = 4294967295; allowed = []; start = e.values }

-- ---- values

-- a whole number as a fixed-point one
abbrev pub whole : ℤ → PropValue
whole n = value.Fix (record { raw = n *ℤ pos 65536 })

-- yes and no
abbrev pub flag : Bool → PropValue
flag b = value.Int (if b then pos 1 else pos 0)

-- a list of texts
abbrev pub texts : List (List ℕ) → List PropValue
texts items = map value.Text items

-- a region: x1, y1, x2 and y2 as fixed-point numbers
abbrev pub region_values : Bounds → List PropValue
region_values r = whole r.x1 ∷ whole r.y1 ∷ whole r.x2 ∷ whole r.y2 ∷ []

-- a window: the same as ints
abbrev pub window_values : Bounds → List PropValue
window_values r = value.Int r.x1 ∷ value.Int r.y1 ∷ value.Int r.x2 ∷ value.Int r.y2 ∷ []

-- pairs of a first and a last frame
abbrev pub range_values : List (ℤ × ℤ) → List PropValue
range_values [] = []
range_values (span ∷ spans) = whole span.0 ∷ whole span.1 ∷ range_values spans

-- ---- entries of one name

abbrev pub region_entry : List ℕ → Bounds → Entry
region_entry name r = record { name = name; kind = kind.Fix; values = region_values r }

abbrev pub window_entry : List ℕ → Bounds → Entry
window_entry name r = record { name = name; kind = kind.Int; values = window_values r }

abbrev pub frames_entry : List ℕ → List (ℤ × ℤ) → Entry
frames_entry name spans = record { name = name; kind = kind.Fix; values = range_values spans }

-- one whole number, as the time
abbrev pub whole_entry : List ℕ → ℤ → Entry
whole_entry name n = record { name = name; kind = kind.Fix; values = whole n ∷ [] }

abbrev pub flag_entry : List ℕ → Bool → Entry
flag_entry name b = record { name = name; kind = kind.Int; values = flag b ∷ [] }

abbrev pub texts_entry : List ℕ → List (List ℕ) → Entry
texts_entry name items = record { name = name; kind = kind.Text; values = texts items }

-- one text
abbrev pub text_entry : List ℕ → List ℕ → Entry
text_entry name text = texts_entry name (text ∷ [])

-- ---- entries of each clip

-- a property with no value yet, of the prefix and a name
abbrev pub blank_entry : List ℕ → PropKind → List ℕ → Entry
blank_entry prefix kind name = record { name = prefix ++ name; kind = kind; values = [] }

-- a property of each clip: its name is the prefix and then the clip's
abbrev pub clip_entries_from : List ℕ → PropKind → (ℕ → List PropValue) → ℕ → List (List ℕ) → List Entry
clip_entries_from prefix kind values k [] = []
clip_entries_from prefix kind values k (name ∷ names) =
    record { name = prefix ++ name; kind = kind; values = values k }
    ∷ clip_entries_from prefix kind values (suc k) names

abbrev pub clip_entries : List ℕ → PropKind → (ℕ → List PropValue) → List (List ℕ) → List Entry
clip_entries prefix kind values names = clip_entries_from prefix kind values 0 names

-- the entries of the regions of interest, and of the frames
abbrev pub interest : List (List ℕ) → (ℕ → Bounds) → List Entry
interest names regions = clip_entries CLIP_REGION.now kind.Fix (λ clip. region_values (regions clip)) names

abbrev pub frame_ranges : List (List ℕ) → (ℕ → List (ℤ × ℤ)) → List Entry
frame_ranges names spans = clip_entries CLIP_FRAMES.now kind.Fix (λ clip. range_values (spans clip)) names

-- ---- what stands in a set

-- a property that waits to be written: no value, and any number of any values may come
abbrev pub blank : PropKind → Property
blank kind = record { kind = kind; values = []; most = 4294967295; allowed = []; start = [] }

abbrev pub IsBlank : Set → PropKind → List ℕ → Type 0
IsBlank set kind name = property set name ≡ Some (blank kind)

-- those of each clip
abbrev pub AreBlank : Set → List ℕ → PropKind → List (List ℕ) → Type 0
AreBlank set prefix kind names = All (λ name. IsBlank set kind (prefix ++ name)) names

-- those of the entries
abbrev pub AwaitEntries : Set → List Entry → Type 0
AwaitEntries set entries = All (λ e. IsBlank set e.kind e.name) entries

-- the set has these values
abbrev pub HasValues : Set → Entry → Type 0
HasValues set e = values_of set e.kind e.name ≡ Some e.values

-- the blank properties of these names were given these values, and the rest of the set stays
pub record Wrote (entries : List Entry) (old new : Set) : Type 0 where
  pub there : All (λ e. property new e.name ≡ Some (with_values (blank e.kind) e.values)) entries
  pub rest : (n : List ℕ) → All (λ e. n ≢ e.name) entries → property new n ≡ property old n

-- the property of the entry's name was given a front of its values: the first few, or none, or all
pub record HasFront (set : Set) (e : Entry) : Type 0 where
  pub count : ℕ
  pub there : property set e.name ≡ Some (with_values (blank e.kind) (take count e.values))

-- the blank properties of these names were given fronts of these values, and the rest of the set stays
pub record WroteFronts (entries : List Entry) (old new : Set) : Type 0 where
  pub fronts : All (HasFront new) entries
  pub rest : (n : List ℕ) → All (λ e. n ≢ e.name) entries → property new n ≡ property old n

-- the set has a region of this name
pub record ShowsRegion (set : Set) (name : List ℕ) : Type 0 where
  pub region : Bounds
  pub rect : IsRect region
  pub there : HasValues set (region_entry name region)

-- a window
pub record ShowsWindow (set : Set) (name : List ℕ) : Type 0 where
  pub window : Bounds
  pub rect : IsRect window
  pub there : HasValues set (window_entry name window)

-- frames
pub record ShowsFrames (set : Set) (name : List ℕ) : Type 0 where
  pub spans : List (ℤ × ℤ)
  pub there : HasValues set (frames_entry name spans)

-- yes or no
pub record ShowsFlag (set : Set) (name : List ℕ) : Type 0 where
  pub yes : Bool
  pub there : HasValues set (flag_entry name yes)

-- one text
pub record ShowsText (set : Set) (name : List ℕ) : Type 0 where
  pub text : List ℕ
  pub there : HasValues set (text_entry name text)

-- texts
pub record ShowsTexts (set : Set) (name : List ℕ) : Type 0 where
  pub items : List (List ℕ)
  pub there : HasValues set (texts_entry name items)

-- ---- what is handed in to be written

-- a whole number of magnitude at most 2^31, whose fixed-point number fits
abbrev pub IsModerate : ℤ → Type 0
IsModerate n = IsStep 2147483648 n

abbrev pub AreModerate : ℤ × ℤ → Type 0
AreModerate span = IsModerate span.0 × IsModerate span.1

-- the texts of a list
abbrev pub texts_of : List (Bor (List ℕ)) → List (List ℕ)
texts_of clips = map (λ n. n.now) clips

-- the region of a clip
abbrev pub region_of : List Bounds → ℕ → Bounds
region_of regions clip = slice_index_or regions clip none

-- the pairs of a clip
abbrev pub spans_of : List (Bor (List (ℤ × ℤ))) → ℕ → List (ℤ × ℤ)
spans_of spans clip = slice_index_or (map (λ s. s.now) spans) clip []
