-- The rule of a draw. Its one word counts the draws: each number below the count was drawn by one seat, once the word
-- is past it.
use Rattle.std.specs.Prelude.{◌≡◌, ℕ, ◌+◌, ◌-◌, ◌<◌, ◌≤◌, min, List, [], ◌∷◌, ◌++◌, length, slice_index, sum_by}
use mathlib.Core.Option.{some}
use lib.ListN.{get_elem?}
use Rattle.atomic_table.specs.Table.{State, Step, Me, rest}
use Rattle.atomic_table.specs.Seated.{TableId}
use Rattle.fx_pool.specs.declared.rule.Hand.{Hand}
use Rattle.fx_pool.specs.Draws.{DrawState, DrawSeatState, all_parts, times, once_below, HasAll}

module _ {S : Type 0} where
  abbrev pub first_hand : ℕ → List S → Hand S
  first_hand count items = record { count = count; items = items; parts = all_parts; drawn = []; past = [] }

  abbrev pub drew : Hand S → ℕ → Hand S
  drew h n = record h { drawn = h.drawn ++ n ∷ [] }

  abbrev pub ended : Hand S → ℕ → Hand S
  ended h n = record h { past = h.past ++ n ∷ [] }

  abbrev pub one_less : Hand S → Hand S
  one_less h = record h { parts = h.parts - 1 }

  abbrev pub one_part : Hand S → Hand S
  one_part h = record { count = h.count; items = h.items; parts = 1; drawn = []; past = [] }

  abbrev pub both : Hand S → Hand S → Hand S
  both h j = record h { parts = h.parts + j.parts; drawn = h.drawn ++ j.drawn; past = h.past ++ j.past }

  -- a seat that was joined into another is left with nothing
  abbrev pub spent : Hand S
  spent = record { count = 0; items = []; parts = 0; drawn = []; past = [] }

  -- a seat with a part knows what is drawn. It was told that no number is left at most once for each part
  pub record Knows (count : ℕ) (items : List S) (h : Hand S) : Type 0 where
    pub count_is : 0 < h.parts → h.count ≡ count
    pub items_are : 0 < h.parts → h.items ≡ items
    pub few : length h.past ≤ h.parts
    pub nothing : h.parts ≡ 0 → h.drawn ≡ []

  -- all parts are with seats. What stands in a slot at first is there until its number is drawn
  pub record Ruled (count : ℕ) (items : List S) (s : State S (Hand S)) : Type 0 where
    pub one : length s.words ≡ 1
    pub parts : sum_by (λ h. h.parts) s.views ≡ all_parts
    pub each_seat : (id : ℕ) (h : Hand S) → get_elem? s.views id ≡ some h → Knows count items h
    pub once : (x : ℕ) → sum_by (λ h. times x h.drawn) s.views ≡ once_below x (min (slice_index s.words 0) count)
    pub most : slice_index s.words 0 ≤ count + sum_by (λ h. length h.past) s.views
    pub last : 0 < sum_by (λ h. length h.past) s.views → count ≤ slice_index s.words 0
    pub home : (k : ℕ) (x : S) → slice_index s.words 0 ≤ k → get_elem? items k ≡ some x
        → get_elem? s.homes k ≡ some (some x)

  -- the number that was found is the seat's, or no number is left
  abbrev pub Drawn : Step S → Me S (Hand S) → ℕ → Me S (Hand S) → Type 0
  Drawn t me found after =
      (found < me.0.count → after ≡ (drew me.0 found, me.1)) × (me.0.count ≤ found → after ≡ (ended me.0 found, me.1))

  -- the same, and the seat has the number's slot, with what stood there at first
  abbrev pub TakenOut : Step S → Me S (Hand S) → ℕ → Me S (Hand S) → Type 0
  TakenOut t me found after =
      (found < me.0.count
      → (x : S) × (get_elem? me.0.items found ≡ some x) × (after ≡ (drew me.0 found, (found, x) ∷ me.1)))
      × (me.0.count ≤ found → after ≡ (ended me.0 found, me.1))

  -- the slot that the seat took last is at home
  abbrev pub ReadBack : Step S → Me S (Hand S) → ℕ → Me S (Hand S) → Type 0
  ReadBack t me found after = after ≡ (me.0, rest me.1)

  -- what a seat with all parts has
  abbrev pub Learnt : Step S → Me S (Hand S) → ℕ → Me S (Hand S) → Type 0
  Learnt t me found after = (after ≡ me) × (me.0.parts ≡ all_parts → HasAll me.0.count me.0.drawn me.0.past)

  -- how a draw and its seats show themselves
  abbrev pub draw_of : TableId → ℕ → List S → DrawState S
  draw_of z count items =
      let stamp = z.words ∷ z.slots ∷ z.views_name ∷ z.atom ∷ z.block ∷ z.offset ∷ z.slot_names in
      record { count = count; items = items; stamp = stamp }

  abbrev pub seat_view : TableId → Hand S → DrawSeatState S
  seat_view z h = record { draw = draw_of z h.count h.items; parts = h.parts; drawn = h.drawn; past = h.past }

  -- a seat has a part, and no slot between two calls
  pub record IsSeat (me : Me S (Hand S)) : Type 0 where
    pub some_part : 0 < me.0.parts
    pub no_slot : me.1 ≡ []

-- one word, and at most 2^32 numbers
pub record IsDraw (z : TableId) (told count : ℕ) : Type 0 where
  pub one_word : z.words ≡ 1
  pub count_is : told ≡ count
  pub few : count ≤ 4294967296
