-- The rule of a row. Each value is at home, or out with the one seat that has its turn. What the values count and claim
-- is what the seats have, added up.
-- A new row is empty at first: its one seat moves the values in, slot by slot.
use Rattle.std.specs.Prelude.{◌≡◌, ℕ, ◌+◌, ◌-◌, ◌<◌, ◌≤◌, ◌==◌, ◌⊎◌, List, [], ◌∷◌, ◌++◌, length, slice_index, sum_by, flat_map, All, Option, Some, None, if◌then◌else◌}
use mathlib.Core.Option.{some}
use lib.ListN.{get_elem?}
use Rattle.atomic_table.specs.Table.{State, Step, Me}
use Rattle.fx_turn.specs.declared.rule.View.{View}
use Rattle.fx_turn.specs.declared.rule.Start.{Start}
use Rattle.fx_turn.specs.declared.rule.Origin.{Origin}
use Rattle.fx_turn.specs.declared.rule.Origin.TheVariants.{Values, Renewed}
use Rattle.fx_turn.specs.declared.rule.Turn.{Turn}
use Rattle.fx_turn.specs.declared.rule.Turn.TheVariants.{Free, Has, Awaits, Fills}
use Rattle.fx_turn.specs.Tallies.{zeros, plus, IsAtMost, tally_after, tally_of_all}
use Rattle.fx_turn.specs.Claims.{times, AreAmong, NumbersDiffer, claims_after, SameClaims}
use Rattle.fx_turn.specs.Seats.{all_parts, IsPlain}

module _ {V : Type 0} where
  -- the turn as clauses see it
  abbrev pub seen_turn : Turn V → Option (ℕ × V)
  seen_turn Free = None
  seen_turn (Has k v) = Some (k, v)
  seen_turn (Awaits vs) = None
  seen_turn (Fills vs) = None

  abbrev pub turn_of : Option (ℕ × V) → Turn V
  turn_of None = Free
  turn_of (Some t) = Has t.0 t.1

  -- a seat that has a turn has the slot, whose value is in the hand
  abbrev pub slots_of : Option (ℕ × V) → List (ℕ × Option V)
  slots_of None = []
  slots_of (Some t) = (t.0, None) ∷ []

  -- a row of so many slots, with these values in: whether there are more to come
  abbrev pub stage_of : ℕ → List V → Turn V
  stage_of slots moved = if length moved == slots then Free else Awaits moved

module _ {N V M : Type 0} where
  abbrev pub with_turn : View N V M → Turn V → View N V M
  with_turn w t = record w { turn = t }

  abbrev pub one_less : View N V M → View N V M
  one_less w = record w { parts = w.parts - 1 }

  abbrev pub one_part : View N V M → View N V M
  one_part w = record { name = w.name; parts = 1; turn = Free; tally = zeros; claims = [] }

  abbrev pub both : View N V M → View N V M → View N V M
  both w u = record w { parts = w.parts + u.parts; tally = plus w.tally u.tally; claims = w.claims ++ u.claims }

  -- a seat that was joined into another is left with nothing
  abbrev pub spent : View N V M
  spent = record { name = None; parts = 0; turn = Free; tally = zeros; claims = [] }

  -- a seat with a part knows the name. One with a turn has the slot, and knows the value as it was taken
  pub record Knows (name : N) (words : List ℕ) (values : List V) (holder : ℕ → ℕ) (id : ℕ) (w : View N V M)
      : Type 0 where
    pub named : 0 < w.parts → w.name ≡ Some name
    pub turn : w.turn ≡ turn_of (seen_turn w.turn)
    pub has : (k : ℕ) (v : V) → w.turn ≡ Has k v
        → (holder k ≡ id) × (0 < w.parts) × (slice_index words k ≡ 1) × (get_elem? values k ≡ some v)
    pub nothing : w.parts ≡ 0 → (w.tally ≡ zeros) × (w.claims ≡ [])

  abbrev pub AtHome : State (Option V) (View N V M) → ℕ → V → Type 0
  AtHome s k v = (slice_index s.words k ≡ 0) × (get_elem? s.homes k ≡ some (some (Some v)))

  abbrev pub IsEmpty : State (Option V) (View N V M) → ℕ → Type 0
  IsEmpty s k = (slice_index s.words k ≡ 0) × (get_elem? s.homes k ≡ some (some None))

  abbrev pub OutWith : State (Option V) (View N V M) → ℕ → ℕ → V → Type 0
  OutWith s id k v =
      (slice_index s.words k ≡ 1) × ((w : View N V M) × (get_elem? s.views id ≡ some w) × (w.turn ≡ Has k v))

  -- the one seat has moved these values in. It is about to move the next, or has its slot
  pub record Unfilled (name : N) (s : State (Option V) (View N V M)) : Type 0 where
    pub me : View N V M
    pub moved : List V
    pub from : ℕ
    pub stage :
        ((me.turn ≡ Awaits moved) × (from ≡ length moved)) ⊎ ((me.turn ≡ Fills moved) × (from ≡ length moved + 1))
    pub alone : s.views ≡ me ∷ []
    pub wide : length s.words ≡ length s.homes
    pub named : me.name ≡ Some name
    pub whole : me.parts ≡ all_parts
    pub filled : (k : ℕ) (v : V) → get_elem? moved k ≡ some v → AtHome s k v
    pub empty : (k : ℕ) → from ≤ k → k < length s.homes → IsEmpty s k

  module _ (tally : V → List ℕ) (claims : V → List (ℕ × M)) where
    -- The view of a row's first seat. The values come from the caller, or from a row that is closed, with a seat that
    -- has all of it
    abbrev pub origin_tally : Origin N V M → List ℕ
    origin_tally (Values vs) = tally_of_all tally vs.value.items
    origin_tally (Renewed seat) = seat.value.me.0.tally

    abbrev pub origin_claims : Origin N V M → List (ℕ × M)
    origin_claims (Values vs) = flat_map claims vs.value.items
    origin_claims (Renewed seat) = seat.value.me.0.claims

    abbrev pub first_view : Start N V M → View N V M
    first_view start =
        record {
          name = Some start.name.value;
          parts = all_parts;
          turn = Awaits [];
          tally = origin_tally start.origin;
          claims = origin_claims start.origin;
        }

    -- the seat gave its turn back, with the second value in place of the first
    abbrev pub given : V → V → View N V M → View N V M
    given before now w =
        record w {
          turn = Free;
          tally = tally_after (tally before) (tally now) w.tally;
          claims = claims_after (claims before) (claims now) w.claims;
        }

  module _ (fits : N → V → Type 0) (tally : V → List ℕ) (claims : V → List (ℕ × M)) where
    -- The row with all values in. Each value fits the name, and is at home or out with the seat that holds its slot.
    -- All parts are with seats. The values' tally is the sum of the seats'. The values' claims are those of the seats,
    -- each with one: each number stands as often among both, and a seat's claims are the value's.
    -- In a row of several slots the values count nothing and claim nothing
    pub record Filled (name : N) (s : State (Option V) (View N V M)) : Type 0 where
      pub values : List V
      pub holder : ℕ → ℕ
      pub wide : length s.words ≡ length s.homes
      pub count : length values ≡ length s.homes
      pub each_slot : (k : ℕ) (v : V) → get_elem? values k ≡ some v
          → fits name v × (AtHome s k v ⊎ OutWith s (holder k) k v)
      pub each_seat : (id : ℕ) (w : View N V M) → get_elem? s.views id ≡ some w → Knows name s.words values holder id w
      pub parts : sum_by (λ w. w.parts) s.views ≡ all_parts
      pub tallies : (i : ℕ) → i < 6
          → sum_by (λ v. slice_index (tally v) i) values ≡ sum_by (λ w. slice_index w.tally i) s.views
      pub numbers : (n : ℕ) → sum_by (λ v. times n (claims v)) values ≡ sum_by (λ w. times n w.claims) s.views
      pub marks : (id k : ℕ) (w : View N V M) (v : V) → get_elem? s.views id ≡ some w → get_elem? values k ≡ some v
          → AreAmong w.claims (claims v)
      pub plain : 1 < length values → (k : ℕ) (v : V) → get_elem? values k ≡ some v → IsPlain tally claims v

    abbrev pub Ruled : N → State (Option V) (View N V M) → Type 0
    Ruled name s = Filled name s ⊎ Unfilled name s

    -- the word was 0: the seat has the turn, and the slot with a value that fits
    abbrev pub Taken : Step (Option V) → Me (Option V) (View N V M) → ℕ → Me (Option V) (View N V M) → Type 0
    Taken t me found after =
        (found ≡ 0 → (v : V) × ((n : N) → me.0.name ≡ Some n → fits n v)
        × (IsAtMost me.0.tally (tally v) × AreAmong me.0.claims (claims v) × NumbersDiffer me.0.claims)
        × (after ≡ (with_turn me.0 (Has t.word v), (t.word, Some v) ∷ me.1)))
        × ((found ≡ 0 → ⊥) → after ≡ me)

    -- the slot goes home with its value, and the turn is free
    abbrev pub Given : Step (Option V) → Me (Option V) (View N V M) → ℕ → Me (Option V) (View N V M) → Type 0
    Given t me found after =
        (before now : V) → me.0.turn ≡ Has t.word before → me.1 ≡ (t.word, Some now) ∷ []
        → after ≡ (given tally claims before now me.0, [])

    -- the first seat has the next slot, which is empty
    abbrev pub Reached : Step (Option V) → Me (Option V) (View N V M) → ℕ → Me (Option V) (View N V M) → Type 0
    Reached t me found after =
        (moved : List V) → me.0.turn ≡ Awaits moved → t.word ≡ length moved → me.1 ≡ []
        → after ≡ (with_turn me.0 (Fills moved), (t.word, None) ∷ [])

    -- the slot goes home with its first value
    abbrev pub Moved : Step (Option V) → Me (Option V) (View N V M) → ℕ → Me (Option V) (View N V M) → Type 0
    Moved t me found after =
        (moved : List V) (v : V) → me.0.turn ≡ Fills moved → t.word ≡ length moved → me.1 ≡ (t.word, Some v) ∷ []
        → after ≡ (with_turn me.0 (stage_of t.slots (moved ++ v ∷ [])), [])

    -- the seat has a turn of the slot, and a value that fits the name that it knows and agrees with what it has
    pub record Won (place : ℕ) (old : View N V M) (new : Me (Option V) (View N V M)) : Type 0 where
      pub value : V
      pub fit : (n : N) → old.name ≡ Some n → fits n value
      pub agrees : IsAtMost old.tally (tally value) × AreAmong old.claims (claims value) × NumbersDiffer old.claims
      pub has : new ≡ (with_turn old (Has place value), (place, Some value) ∷ [])

    -- what values need to be those of a row, whose seat has this tally and these claims
    pub record MayStand (name : N) (values : List V) (counted : List ℕ) (claimed : List (ℕ × M)) : Type 0 where
      pub fit : All (fits name) values
      pub tallies : counted ≡ tally_of_all tally values
      pub same : SameClaims (flat_map claims values) claimed
      pub plain : 1 < length values → All (IsPlain tally claims) values

    -- the seat may move the value into the next slot. With the last one the row is filled
    pub record MayMove (name : N) (slots place : ℕ) (value : V) (me : Me (Option V) (View N V M)) : Type 0 where
      pub moved : List V
      pub turn : me.0.turn ≡ Awaits moved
      pub count : place ≡ length moved
      pub free : me.1 ≡ []
      pub last : length moved + 1 ≡ slots → MayStand name (moved ++ value ∷ []) me.0.tally me.0.claims
