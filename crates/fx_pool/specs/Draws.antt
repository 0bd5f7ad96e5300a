-- What clauses see of a draw and of its seats.
use Rattle.std.specs.Prelude.{◌≡◌, ℕ, ◌+◌, ◌-◌, ◌<◌, ◌≤◌, ◌==◌, nat_lt, List, [], ◌∷◌, ◌++◌, length, count_by, if◌then◌else◌, Option, Some, None}
use mathlib.Core.Option.{some}
use lib.ListN.{get_elem?}

-- A draw of the numbers below a count. Where the numbers have slots, the items stood in these at first. No other draw
-- has its stamp
pub record DrawState (S : Type 0) : Type 0 where
  pub count : ℕ
  pub items : List S
  pub stamp : List ℕ

-- A seat has the numbers that it drew, in order, and what its draws found the word at that gave no number
pub record DrawSeatState (S : Type 0) : Type 0 where
  pub draw : DrawState S
  pub parts : ℕ
  pub drawn : List ℕ
  pub past : List ℕ

-- as many parts as a draw has
abbrev pub all_parts : ℕ
all_parts = 4294967296

-- how often x stands in the list
abbrev pub times : ℕ → List ℕ → ℕ
times x ns = count_by (λ n. n == x) ns

abbrev pub once_below : ℕ → ℕ → ℕ
once_below x n = if nat_lt x n then 1 else 0

-- the numbers below the count, each once, and no others
abbrev pub AllDrawn : ℕ → List ℕ → Type 0
AllDrawn count ns = (x : ℕ) → times x ns ≡ once_below x count

-- What a seat with all parts has: the numbers below some number, each once, and no others. Once it was told that no
-- number is left, these are all below the count
pub record HasAll (count : ℕ) (drawn past : List ℕ) : Type 0 where
  pub next : ℕ
  pub within : next ≤ count
  pub each_once : AllDrawn next drawn
  pub ended : 0 < length past → next ≡ count

module _ {S : Type 0} where
  abbrev pub first_seat : DrawState S → DrawSeatState S
  first_seat d = record { draw = d; parts = all_parts; drawn = []; past = [] }

  -- a new seat: one part, and nothing else
  abbrev pub new_seat : DrawSeatState S → DrawSeatState S
  new_seat s = record { draw = s.draw; parts = 1; drawn = []; past = [] }

  abbrev pub with_one_part_less : DrawSeatState S → DrawSeatState S
  with_one_part_less s = record s { parts = s.parts - 1 }

  abbrev pub with_drawn : DrawSeatState S → ℕ → DrawSeatState S
  with_drawn s n = record s { drawn = s.drawn ++ n ∷ [] }

  abbrev pub with_past : DrawSeatState S → ℕ → DrawSeatState S
  with_past s n = record s { past = s.past ++ n ∷ [] }

  -- both in one
  abbrev pub joined : DrawSeatState S → DrawSeatState S → DrawSeatState S
  joined s t = record s { parts = s.parts + t.parts; drawn = s.drawn ++ t.drawn; past = s.past ++ t.past }

module _ {I : Type 0} where
  -- the item that stands in the slot of the number n
  abbrev pub IsItem : List (Option I) → ℕ → I → Type 0
  IsItem slots n item = get_elem? slots n ≡ some (Some item)

  -- each number has a slot, with an item in it
  pub record HasItems (d : DrawState (Option I)) : Type 0 where
    pub count : length d.items ≡ d.count
    pub full : (k : ℕ) → get_elem? d.items k ≡ some None → ⊥
