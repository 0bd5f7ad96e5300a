-- Entries as they are sorted.
use Rattle.std.specs.Prelude.{◌≡◌, ◌≢◌, ◌<◌, ◌⊎◌, ℕ, ℤ, true, Bool, List, Contains}
use Rattle.std.specs.declared.cmp.Ordering.{Ordering}
use Rattle.std.specs.Ordering.{nat_cmp, int_cmp, ordering_then}
use Rattle.std.specs.BTreeSet.{BTreeSet, contains}
use Rattle.fx_base.specs.Bounds.{Bounds, IsRect, none}
use Rattle.fx_base.specs.Rect.{IsWithin}
use Rattle.fx_scene.specs.Areas.{area}
use Rattle.fx_scene.specs.Nodes.{Nodes}
use Rattle.fx_region.specs.Tables.{Has}
use Rattle.fx_region.specs.declared.regions.Regions.{Regions}
use Rattle.fx_plan.specs.declared.entry.Entry.{Entry}
use Rattle.fx_plan.specs.declared.entry.SortKey.{SortKey}
use Rattle.fx_plan.specs.Plan.{IsBefore, IsDemanded, needed_entries, window_entries}

abbrev pub key_of : Entry → SortKey
key_of e =
    record {
      node = e.node;
      frame = e.frame;
      y1 = e.region.y1;
      x1 = e.region.x1;
      y2 = e.region.y2;
      x2 = e.region.x2;
    }

abbrev pub key_region : SortKey → Bounds
key_region k = record { x1 = k.x1; y1 = k.y1; x2 = k.x2; y2 = k.y2 }

abbrev pub entry_of : SortKey → Entry
entry_of k = record { node = k.node; frame = k.frame; region = key_region k }

-- by node, by frame, and by the bottom, left, top and right of the region
abbrev pub key_cmp : SortKey → SortKey → Ordering
key_cmp a b =
    ordering_then (nat_cmp a.node b.node) (ordering_then (int_cmp a.frame b.frame) (ordering_then (int_cmp a.y1 b.y1)
    (ordering_then (int_cmp a.x1 b.x1) (ordering_then (int_cmp a.y2 b.y2) (int_cmp a.x2 b.x2)))))

-- the entries that a set has
abbrev pub has : BTreeSet SortKey → Entry → Bool
has keys e = contains key_cmp keys (key_of e)

-- these entries are added to a set
pub record Adds (entries : List Entry) (old new : BTreeSet SortKey) : Type 0 where
  pub keeps : (e : Entry) → has old e ≡ true → has new e ≡ true
  pub only : (e : Entry) → has new e ≡ true → (has old e ≡ true) ⊎ Contains entries e
  pub all : (e : Entry) → Contains entries e → has new e ≡ true

-- its region is a rectangle
abbrev pub HasRect : Entry → Type 0
HasRect e = IsRect e.region

abbrev pub KeyHasRect : SortKey → Type 0
KeyHasRect k = IsRect (key_region k)

-- A rectangle of one of the first n nodes, which is reached at the frame. It has a place and lies in the node's area.
pub record IsRenderEntry (nodes : Nodes) (regions : Regions) (n : ℕ) (e : Entry) : Type 0 where
  pub rect : IsRect e.region
  pub earlier : e.node < n
  pub reached : Has regions e.node e.frame
  pub some : e.region ≢ none
  pub inside : IsWithin e.region (area nodes e.node e.frame)

-- each entry of the set is
abbrev pub AreRenders : Nodes → Regions → ℕ → BTreeSet SortKey → Type 0
AreRenders nodes regions n keys = (e : Entry) → has keys e ≡ true → IsRenderEntry nodes regions n e

-- the set is the least one that has the entries of the window tiles, and with each of its members those that it needs,
-- which stand before it
pub record AreDemanded (nodes : Nodes) (output side : ℕ) (project : Bounds) (t : ℤ) (keys : BTreeSet SortKey)
    : Type 0 where
  pub window : (e : Entry) → Contains (window_entries nodes output side project t) e → has keys e ≡ true
  pub needs : (e d : Entry) → has keys e ≡ true → Contains (needed_entries nodes side e) d → has keys d ≡ true
  pub only : (e : Entry) → has keys e ≡ true → IsDemanded nodes output side project t e
  pub first : (e d : Entry) → has keys e ≡ true → Contains (needed_entries nodes side e) d → IsBefore d e
