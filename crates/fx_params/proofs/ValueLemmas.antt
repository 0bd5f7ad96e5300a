-- The value at a frame by how many keys are passed.
use Rattle.std.proofs.Common.{◌≡◌, ℕ, zero, suc, ◌+◌, ◌-◌, ◌<◌, ◌≤◌, eqb, ℤ, ◌≤ℤ◌, ◌<ℤ◌, Bool, true, false, ◌||◌, ◌&&◌, cond, List, [], ◌∷◌, length, get_or, All, slice_get, Option, Some, None, MatchOption, IsTrue, subst, add-one, refl, sym, ap, ◌∙◌, arith}
use Rattle.std.specs.Int.{int_min, int_max}
use Rattle.std.specs.Option.{SomeIff}
use Rattle.std.specs.Int.Signed.{lt_z, le_z}
use Rattle.std.proofs.lemmas.Bool.{cond-true, cond-false}
use Rattle.std.proofs.lemmas.Bool.Decides.{nat_tests}
use Rattle.std.proofs.lemmas.Int.{ints, clamps}
use Rattle.std.proofs.lemmas.List.Elements.{All-head, All-tail}
use Rattle.std.proofs.lemmas.Option.{get_or_from_slice_get, slice_get_within}
use Rattle.fx_params.specs.declared.def.ParamDef.{ParamDef}
use Rattle.fx_params.specs.declared.key.Key.{Key}
use Rattle.fx_params.specs.Value.{IsWithin}
use Rattle.fx_params.specs.Keys.{IsRising, no_key, frame_at, IsAt, IsGapFor, IsPassed}
use Rattle.fx_params.specs.Parameter.{Parameter, steps, between, value_from, keyed_value, value_at, value_before, value_after, IsValueAt, IsSound}
use Rattle.fx_params.proofs.KeyLemmas.{rises, lt_is, lt_not}
use Rattle.fx_params.proofs.Slope.{between_low, between_high}

-- ---- how many keys are passed

pub passed_at : (keys : List Key) (frame : ℤ) (i : ℕ) → IsRising keys → IsAt keys frame i → IsPassed keys frame (i + 1)
passed_at keys frame i rising is = record {
  in_range = omega (arith, is.in_range);
  before = λ j lt. grind (arith, ints, is.has_frame, rises keys rising j i, is.in_range, λ (same : j ≡ i). ap (frame_at keys) same);
  after = λ j le lt. let later = rises keys rising i j (omega arith) lt in omega (arith, ints, is.has_frame);
}

pub passed_gap : (keys : List Key) (frame : ℤ) (i : ℕ) → IsGapFor keys frame i → IsPassed keys frame i
passed_gap keys frame i gap = record {
  in_range = gap.in_range;
  before = λ j lt. let h = gap.earlier_before j lt in omega (arith, ints);
  after = gap.later_after;
}

-- the place before a gap is that of the last key passed
pub last_before : (keys : List Key) (frame : ℤ) (at : ℕ) (r : Option ℕ) → IsPassed keys frame at → SomeIff r (1 ≤ at) (at - 1) → MatchOption r (IsPassed keys frame 0) (λ last. IsPassed keys frame (last + 1))
last_before keys frame at None passed none =
    let is : at ≡ 0 = grind arith in
    subst (IsPassed keys frame) is passed
last_before keys frame at (Some last) passed some =
    let is : at ≡ last + 1 = omega (arith, some.0, some.1) in
    subst (IsPassed keys frame) is passed

passed_rest : (key : Key) (keys : List Key) (frame : ℤ) (n : ℕ) → IsPassed (key ∷ keys) frame (suc n) → IsPassed keys frame n
passed_rest key keys frame n passed = record {
  in_range = omega (arith, passed.in_range);
  before = λ j lt. passed.before (suc j) (omega arith);
  after = λ j le lt. passed.after (suc j) (omega arith) (omega arith);
}

-- ---- the value by that number

pub value_none_passed : (step : Bool) (plain : ℤ) (keys : List Key) (t : ℤ) → IsPassed keys t 0 → keyed_value step plain keys t ≡ value_before plain keys
value_none_passed step plain [] t passed = refl
value_none_passed step plain (a ∷ keys) t passed = cond-true _ _ _ (lt_is t a.frame (passed.after 0 (omega arith) (omega arith)))

-- `value_after` at the successor
abbrev after_key : Bool → List Key → ℕ → ℤ → ℤ
after_key step keys i t = let a = get_or keys i no_key in cond (step || eqb (suc i) (length keys)) a.value (between a (get_or keys (suc i) no_key) t)

after_key_is : (step : Bool) (keys : List Key) (i : ℕ) (t : ℤ) → value_after step keys i t ≡ after_key step keys i t
after_key_is step keys i t = rw add-one refl

eqb_suc : (m n : ℕ) → eqb (suc m) (suc n) ≡ eqb m n
eqb_suc m n = grind (arith, nat_tests)

or_true : (b : Bool) (x y : ℤ) → cond (b || true) x y ≡ x
or_true true x y = refl
or_true false x y = refl

or_false : (b : Bool) (x y : ℤ) → cond (b || false) x y ≡ cond b x y
or_false true x y = refl
or_false false x y = refl

value_from_passed : (step : Bool) (a : Key) (keys : List Key) (t : ℤ) (n : ℕ) → IsPassed keys t n → value_from step a keys t ≡ after_key step (a ∷ keys) n t
value_from_passed step a [] t zero passed = sym (or_true step _ _)
value_from_passed step a [] t (suc n) passed = absurd (omega (arith, passed.in_range))
value_from_passed step a (b ∷ keys) t zero passed =
    let more : eqb 1 (suc (suc (length keys))) ≡ false = grind (arith, nat_tests) in
    rw (lt_is t b.frame (passed.after 0 (omega arith) (omega arith)), more) (sym (or_false step _ _))
value_from_passed step a (b ∷ keys) t (suc n) passed =
    rw (lt_not t b.frame (passed.before 0 (omega arith)), eqb_suc (suc n) (suc (length keys))) (value_from_passed step b keys t n (passed_rest b keys t n passed))

value_some_passed : (step : Bool) (plain : ℤ) (keys : List Key) (t : ℤ) (i : ℕ) → IsPassed keys t (suc i) → keyed_value step plain keys t ≡ after_key step keys i t
value_some_passed step plain [] t i passed = absurd (omega (arith, passed.in_range))
value_some_passed step plain (a ∷ keys) t i passed =
    cond-false _ _ _ (lt_not t a.frame (passed.before 0 (omega arith))) ∙ value_from_passed step a keys t i (passed_rest a keys t i passed)

pub value_later : (step : Bool) (plain : ℤ) (keys : List Key) (t : ℤ) (i : ℕ) → IsPassed keys t (i + 1) → keyed_value step plain keys t ≡ value_after step keys i t
value_later step plain keys t i passed =
    let by_suc = rw add-one at passed in
    value_some_passed step plain keys t i by_suc ∙ sym (after_key_is step keys i t)

-- ---- the value key by key

-- earlier keys stand no later
rises_to : (keys : List Key) → IsRising keys → (i j : ℕ) → i ≤ j → j < length keys → frame_at keys i ≤ℤ frame_at keys j
rises_to keys rising i j le in_range = grind (arith, ints, rises keys rising i j, λ (same : i ≡ j). ap (frame_at keys) same)

none_passed : (keys : List Key) (t : ℤ) → IsRising keys → t <ℤ frame_at keys 0 → IsPassed keys t 0
none_passed keys t rising later = record {
  in_range = omega arith;
  before = λ j lt. absurd (omega arith);
  after = λ j le lt. let h = rises_to keys rising 0 j (omega arith) lt in omega (arith, ints);
}

passed_to : (keys : List Key) (t : ℤ) (i : ℕ) → IsRising keys → i < length keys → frame_at keys i ≤ℤ t → (suc i < length keys → t <ℤ frame_at keys (suc i)) → IsPassed keys t (suc i)
passed_to keys t i rising in_range reached ahead = record {
  in_range = omega arith;
  before = λ j lt. let h = rises_to keys rising j i (omega arith) in_range in omega (arith, ints);
  after = λ j le lt. let h = rises_to keys rising (suc i) j le lt in let next = ahead (omega arith) in omega (arith, ints);
}

before_is : (plain : ℤ) (keys : List Key) (a : Key) → slice_get keys 0 ≡ Some a → value_before plain keys ≡ a.value
before_is plain [] a e = absurd (cc)
before_is plain (b ∷ keys) a e = let same : b ≡ a = cc in ap (λ k. k.value) same

module _ (p : Parameter) (rising : IsRising p.keys) (t : ℤ) where
  value_before_first : (a : Key) → slice_get p.keys 0 ≡ Some a → t <ℤ a.frame → value_at p t ≡ a.value
  value_before_first a e early =
      let is : get_or p.keys 0 no_key ≡ a = get_or_from_slice_get p.keys 0 a no_key e in
      let passed = none_passed p.keys t rising (rw (frame_at, is) early) in
      value_none_passed (steps p) p.plain p.keys t passed ∙ before_is p.plain p.keys a e

  value_from_last : (a : Key) → slice_get p.keys (length p.keys - 1) ≡ Some a → a.frame ≤ℤ t → value_at p t ≡ a.value
  value_from_last a e late =
      let last = length p.keys - 1 in
      let inside : last < length p.keys = slice_get_within p.keys last a e in
      let is : get_or p.keys last no_key ≡ a = get_or_from_slice_get p.keys last a no_key e in
      let passed = passed_to p.keys t last rising inside (rw (frame_at, is) late) (λ more. absurd (omega arith)) in
      let none_later : eqb (suc last) (length p.keys) ≡ true = grind (arith, nat_tests) in
      value_some_passed (steps p) p.plain p.keys t last passed
      ∙ rw none_later (or_true (steps p) _ _)
      ∙ ap (λ k. k.value) is

  value_between : (i : ℕ) (a b : Key) → slice_get p.keys i ≡ Some a → slice_get p.keys (i + 1) ≡ Some b → a.frame ≤ℤ t → t <ℤ b.frame → value_at p t ≡ cond (steps p) a.value (between a b t)
  value_between i a b ea eb reached ahead =
      let inside : suc i < length p.keys = let h = slice_get_within p.keys (i + 1) b eb in omega arith in
      let is_a : get_or p.keys i no_key ≡ a = get_or_from_slice_get p.keys i a no_key ea in
      let is_b : get_or p.keys (suc i) no_key ≡ b = rw (← add-one) (get_or_from_slice_get p.keys (i + 1) b no_key eb) in
      let passed = passed_to p.keys t i rising (omega arith) (rw (frame_at, is_a) reached) (λ more. rw (frame_at, is_b) ahead) in
      let more : eqb (suc i) (length p.keys) ≡ false = grind (arith, nat_tests) in
      value_some_passed (steps p) p.plain p.keys t i passed
      ∙ rw more (or_false (steps p) _ _)
      ∙ ap (λ k. cond (steps p) k.value (between k (get_or p.keys (suc i) no_key) t)) is_a
      ∙ ap (λ k. cond (steps p) a.value (between a k t)) is_b

  pub value_law : IsValueAt p t (value_at p t)
  value_law = record {
    without_keys = λ e. ap (λ keys. keyed_value (steps p) p.plain keys t) e;
    before_first = value_before_first;
    from_last = value_from_last;
    between_keys = value_between;
  }

-- ---- the value stays in the definition's range

within_span : (least greatest x y z : ℤ) → int_min x y ≤ℤ z → z ≤ℤ int_max x y → IsTrue (le_z least x && le_z x greatest) → IsTrue (le_z least y && le_z y greatest) → IsTrue (le_z least z && le_z z greatest)
within_span least greatest x y z low high wx wy = grind (arith, ints, clamps)

within_between : (def : ParamDef) (a b : Key) (t : ℤ) → a.frame ≤ℤ t → t <ℤ b.frame → IsWithin def a.value → IsWithin def b.value → IsWithin def (between a b t)
within_between def a b t from to wa wb =
    within_span def.least def.greatest a.value b.value (between a b t) (between_low a b t from to) (between_high a b t from to) wa wb

value_from_within : (def : ParamDef) (step : Bool) (a : Key) (keys : List Key) (t : ℤ) → a.frame ≤ℤ t → IsWithin def a.value → All (λ key. IsWithin def key.value) keys → IsWithin def (value_from step a keys t)
value_from_within def step a [] t from wa all = wa
value_from_within def step a (b ∷ keys) t from wa all =
    let wb = All-head (λ key. IsWithin def key.value) b keys all in
    elim (lt_z t b.frame) as (λ c. lt_z t b.frame ≡ c → IsWithin def (cond c (cond step a.value (between a b t)) (value_from step b keys t))) [
      | true ↦ λ to. elim step as (λ s. IsWithin def (cond s a.value (between a b t))) [
        | true ↦ wa
        | false ↦ within_between def a b t from (grind (arith, ints)) wa wb
      ]
      | false ↦ λ past. value_from_within def step b keys t (grind (arith, ints)) wb (All-tail (λ key. IsWithin def key.value) b keys all)
    ] refl

keyed_within : (def : ParamDef) (step : Bool) (plain : ℤ) (keys : List Key) (t : ℤ) → IsWithin def plain → All (λ key. IsWithin def key.value) keys → IsWithin def (keyed_value step plain keys t)
keyed_within def step plain [] t w all = w
keyed_within def step plain (a ∷ keys) t w all =
    let wa = All-head (λ key. IsWithin def key.value) a keys all in
    elim (lt_z t a.frame) as (λ c. lt_z t a.frame ≡ c → IsWithin def (cond c a.value (value_from step a keys t))) [
      | true ↦ λ early. wa
      | false ↦ λ late. value_from_within def step a keys t (grind (arith, ints)) wa (All-tail (λ key. IsWithin def key.value) a keys all)
    ] refl

pub value_within : (p : Parameter) → IsSound p → (t : ℤ) → IsWithin p.def (value_at p t)
value_within p sound t = keyed_within p.def (steps p) p.plain p.keys t sound.plain sound.values
