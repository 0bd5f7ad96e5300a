-- What the views of a row and of its seats tell of the fields behind them.
use Rattle.std.proofs.Common.{◌≡◌, ℕ, ◌<◌, List, [], ◌∷◌, Option, Some, None, IsSomeAnd, IfSome, refl, ap, subst, ◌∙◌}
use Rattle.atomic_table.specs.Table.{Me}
use Rattle.atomic_table.specs.Seated.{TableId}
use Rattle.fx_turn.specs.declared.rule.View.{View}
use Rattle.fx_turn.specs.declared.rule.Turn.TheVariants.{Free, Has}
use Rattle.fx_turn.specs.Seats.{Row, SeatState, after_turn}
use Rattle.fx_turn.specs.Turning.{seen_turn, turn_of, slots_of, given}
use Rattle.fx_turn.specs.Sitting.{row_of, seat_view, IsSeat}

-- a row's stamp is its table
abbrev table_of : {N : Type 0} → Row N → TableId → TableId
table_of r z = elim r.stamp [
  | [] ↦ z
  | words ∷ s1 ↦ elim s1 [
    | [] ↦ z
    | views ∷ s2 ↦ elim s2 [
      | [] ↦ z
      | atom ∷ s3 ↦ elim s3 [
        | [] ↦ z
        | block ∷ s4 ↦ elim s4 [ [] ↦ z | offset ∷ names ↦ record { words = words; slots = r.slots; views_name = views; atom = atom; block = block; offset = offset; slot_names = names } ]
      ]
    ]
  ]
]

pub same_table : {N : Type 0} (n m : N) (z y : TableId) → row_of n z ≡ row_of m y → z ≡ y
same_table {N} n m z y e = ap (λ (r : Row N). table_of r z) e

module _ {N V M : Type 0} where
  -- a seat that shows no turn has none, and has no slot
  pub is_free : (name : N) (z : TableId) (me : Me (Option V) (View N V M)) → IsSeat name z me → seen_turn me.0.turn ≡ None → (me.0.turn ≡ Free) × (me.1 ≡ [])
  is_free name z me seat shown = (seat.turn ∙ ap turn_of shown, seat.slot ∙ ap slots_of shown)

  -- a seat that shows a turn has that one, and its slot
  pub has_turn : (name : N) (z : TableId) (me : Me (Option V) (View N V M)) (k : ℕ) (v : V) → IsSeat name z me → seen_turn me.0.turn ≡ Some (k, v) → (me.0.turn ≡ Has k v) × (me.1 ≡ (k, None) ∷ [])
  has_turn name z me k v seat shown = (seat.turn ∙ ap turn_of shown, seat.slot ∙ ap slots_of shown)

  module _ (tally : V → List ℕ) (claims : V → List (ℕ × M)) where
    pub given_sits : (name : N) (z : TableId) (w : View N V M) (before now : V) → w.name ≡ Some name → 0 < w.parts → IsSeat name z (given tally claims before now w, [])
    given_sits name z w before now named some_part = record {
      named = named;
      some_part = some_part;
      six_numbers = refl;
      turn = refl;
      slot = refl;
      within = λ k v e. cc;
    }

    -- a turn that is given back shows as such
    pub given_shows : (name : N) (z y : TableId) (w u : View N V M) (before now : V) (s : SeatState N V M) → y ≡ z → u ≡ given tally claims before now w → seat_view name z w ≡ s → seat_view name y u ≡ after_turn tally claims before now s
    given_shows name z y w u before now s same is shown = (λ q. seat_view name (same q) (is q)) ∙ ap (after_turn tally claims before now) shown

module _ {T : Type 0} where
  pub some_and : (o : Option T) (P : T → Type 0) → IsSomeAnd o P → (x : T) × (o ≡ Some x) × P x
  some_and None P h = absurd h
  some_and (Some x) P h = (x, refl, h)

  pub and_some : (o : Option T) (P : T → Type 0) (x : T) → IsSomeAnd o P → o ≡ Some x → P x
  and_some None P x h e = absurd h
  and_some (Some y) P x h e = let is : y ≡ x = cc in subst P is h

  pub if_some : (o : Option T) (P : T → Type 0) (x : T) → IfSome o P → o ≡ Some x → P x
  if_some None P x h e = cc
  if_some (Some y) P x h e = let is : y ≡ x = cc in subst P is h

  pub if_some_is : (o : Option T) (P : T → Type 0) → ((x : T) → o ≡ Some x → P x) → IfSome o P
  if_some_is None P h = tt
  if_some_is (Some x) P h = h x refl
