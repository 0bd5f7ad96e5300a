-- What a search finds among keys with rising frames, and what an edit at that place does.
use Rattle.std.proofs.Common.{◌≡◌, ◌≢◌, ℕ, zero, suc, ◌^◌, ◌<◌, ℤ, pos, ◌-ℤ◌, ◌≤ℤ◌, ◌<ℤ◌, Bool, true, false, not, cond, ltb, List, [], ◌∷◌, length, get_or, set, All, Result, Ok, Err, IfOk, IfErr, Some, None, refl, sym, ap, ◌∙◌, arith}
use Rattle.std.specs.List.{insert, remove, position, position_or_len}
use Rattle.std.specs.List.Sorted.{IsSearchInRange, IsBinarySearchResult, IsNonDecreasingBy}
use Rattle.std.specs.Int.Signed.{lt_z}
use Rattle.std.specs.Ordering.{int_cmp, int_eq, ordering_index}
use Rattle.std.specs.Cmp.{int_ranked}
use Rattle.std.proofs.lemmas.Bool.{cond-true, cond-false}
use Rattle.std.proofs.lemmas.Bool.Decides.{nat_tests}
use Rattle.std.proofs.lemmas.Int.{ints}
use Rattle.std.proofs.lemmas.List.Elements.{All-cons, All-head, All-tail, All-nil, All-filter, All-weaker}
use Rattle.std.proofs.lemmas.List.Kept.{AllPairs-cons, AllPairs-filter}
use Rattle.std.proofs.lemmas.List.Sums.{prefix_len_is}
use Rattle.std.proofs.lemmas.List.Sorted.{IsNonDecreasingBy-from_default}
use Rattle.fx_params.specs.declared.key.Key.{Key}
use Rattle.fx_params.specs.Keys.{IsRising, key_at, ChangesKey, with_key, without_key, no_key, frame_at, IsAt, IsGapFor}
use Rattle.fx_base.specs.Rect.{IsFrame}

-- ---- one frame against another

pub lt_is : (a b : ℤ) → a <ℤ b → lt_z a b ≡ true
lt_is a b h = grind (arith, ints)

pub lt_not : (a b : ℤ) → b ≤ℤ a → lt_z a b ≡ false
lt_not a b h = grind (arith, ints)

eq_is : (a b : ℤ) → a ≡ b → int_eq a b ≡ true
eq_is a b h = grind (arith, ints)

eq_not : (a b : ℤ) → a ≢ b → int_eq a b ≡ false
eq_not a b h = grind (arith, ints)

-- ---- rising frames

pub rises : (keys : List Key) → IsRising keys → (i j : ℕ) → i < j → j < length keys → frame_at keys i <ℤ frame_at keys j
rises keys rising i j lt in_range = rising i j no_key lt in_range

pub first_below : (key : Key) (keys : List Key) → IsRising (key ∷ keys) → All (λ later. key.frame <ℤ later.frame) keys
first_below key keys rising k d lt = rising 0 (suc k) d (omega arith) (omega arith)

pub rising_rest : (key : Key) (keys : List Key) → IsRising (key ∷ keys) → IsRising keys
rising_rest key keys rising i j d lt in_range = rising (suc i) (suc j) d (omega arith) (omega arith)

module _ (keys : List Key) (rising : IsRising keys) (frame : ℤ) where
  -- the comparisons with the frame rise along the keys, as a binary search asks
  comparisons_rise : IsNonDecreasingBy (λ key. ordering_index (int_cmp key.frame frame)) keys
  comparisons_rise = IsNonDecreasingBy-from_default (λ key. ordering_index (int_cmp key.frame frame)) keys no_key (λ i j le in_range.
      let frames_rise : frame_at keys i ≤ℤ frame_at keys j = grind (arith, ints, rises keys rising i j, λ (same : i ≡ j). ap (frame_at keys) same) in
      grind (arith, ints))

  -- a binary search by frame ends at the key, or at the gap for it
  pub searched : (r : Result ℕ ℕ) → IsSearchInRange r (length keys) → IsBinarySearchResult (λ key. int_cmp key.frame frame) keys r → record { found : IfOk r (IsAt keys frame); absent : IfErr r (IsGapFor keys frame) }
  searched (Ok at) in_range equal = record { found = record { in_range = in_range; has_frame = int_ranked _ frame _ (sym (equal no_key)) }; absent = tt }
  searched (Err at) in_range parted = record {
    found = tt;
    absent = record {
      in_range = in_range;
      earlier_before = λ j lt. int_ranked _ frame _ (sym ((parted comparisons_rise).0 j no_key (omega arith) lt));
      later_after = λ j le lt. int_ranked _ frame _ (sym ((parted comparisons_rise).1 j no_key le lt));
    };
  }

-- ---- an edit at the place is the edit of the list by frame

at_rest : (key : Key) (keys : List Key) (frame : ℤ) (i : ℕ) → IsAt (key ∷ keys) frame (suc i) → IsAt keys frame i
at_rest key keys frame i is = record { in_range = omega (arith, is.in_range); has_frame = is.has_frame }

gap_rest : (key : Key) (keys : List Key) (frame : ℤ) (i : ℕ) → IsGapFor (key ∷ keys) frame (suc i) → IsGapFor keys frame i
gap_rest key keys frame i gap = record {
  in_range = omega (arith, gap.in_range);
  earlier_before = λ j lt. gap.earlier_before (suc j) (omega arith);
  later_after = λ j le lt. gap.later_after (suc j) (omega arith) (omega arith);
}

pub set_at_key : (keys : List Key) (new : Key) (i : ℕ) → IsRising keys → IsAt keys new.frame i → set keys i new ≡ with_key keys new
set_at_key [] new i rising is = absurd (omega (arith, is.in_range))
set_at_key (key ∷ keys) new zero rising is = rw (lt_not key.frame new.frame (omega (arith, ints, is.has_frame)), lt_not new.frame key.frame (omega (arith, ints, is.has_frame))) refl
set_at_key (key ∷ keys) new (suc i) rising is =
    let below = rises (key ∷ keys) rising 0 (suc i) (omega arith) is.in_range in
    rw (lt_is key.frame new.frame (omega (arith, ints, is.has_frame))) (ap (λ rest. key ∷ rest) (set_at_key keys new i (rising_rest key keys rising) (at_rest key keys new.frame i is)))

pub insert_in_gap : (keys : List Key) (new : Key) (i : ℕ) → IsGapFor keys new.frame i → insert keys i new ≡ with_key keys new
insert_in_gap [] new zero gap = refl
insert_in_gap [] new (suc i) gap = absurd (omega (arith, gap.in_range))
insert_in_gap (key ∷ keys) new zero gap =
    let later = gap.later_after 0 (omega arith) (omega arith) in
    rw (lt_not key.frame new.frame (omega (arith, ints)), lt_is new.frame key.frame later) refl
insert_in_gap (key ∷ keys) new (suc i) gap =
    rw (lt_is key.frame new.frame (gap.earlier_before 0 (omega arith))) (ap (λ rest. key ∷ rest) (insert_in_gap keys new i (gap_rest key keys new.frame i gap)))

-- no later key is at an earlier frame
without_key_none : (keys : List Key) (frame : ℤ) → All (λ key. frame <ℤ key.frame) keys → without_key keys frame ≡ keys
without_key_none [] frame later = refl
without_key_none (key ∷ keys) frame later =
    let here = All-head (λ key. frame <ℤ key.frame) key keys later in
    rw (lt_not key.frame frame (omega (arith, ints)), lt_is frame key.frame here) (ap (λ rest. key ∷ rest) (without_key_none keys frame (All-tail (λ key. frame <ℤ key.frame) key keys later)))

pub remove_at_key : (keys : List Key) (frame : ℤ) (i : ℕ) → IsRising keys → IsAt keys frame i → remove keys i ≡ without_key keys frame
remove_at_key [] frame i rising is = absurd (omega (arith, is.in_range))
remove_at_key (key ∷ keys) frame zero rising is =
    let later = All-weaker (λ later. key.frame <ℤ later.frame) (λ later. frame <ℤ later.frame) (λ later h. omega (arith, ints, is.has_frame)) keys (first_below key keys rising) in
    rw (lt_not key.frame frame (omega (arith, ints, is.has_frame)), lt_not frame key.frame (omega (arith, ints, is.has_frame))) (sym (without_key_none keys frame later))
remove_at_key (key ∷ keys) frame (suc i) rising is =
    let below = rises (key ∷ keys) rising 0 (suc i) (omega arith) is.in_range in
    rw (lt_is key.frame frame (omega (arith, ints, is.has_frame))) (ap (λ rest. key ∷ rest) (remove_at_key keys frame i (rising_rest key keys rising) (at_rest key keys frame i is)))

-- ---- what the edits by frame keep

pub All-with_key : (P : Key → Type 0) (keys : List Key) (new : Key) → P new → All P keys → All P (with_key keys new)
All-with_key P [] new here all = All-cons P new [] here all
All-with_key P (key ∷ keys) new here all =
    let rest = All-tail P key keys all in
    let later = All-cons P key (with_key keys new) (All-head P key keys all) (All-with_key P keys new here rest) in
    elim (lt_z key.frame new.frame) as (λ b. All P (cond b (key ∷ with_key keys new) (cond (int_eq key.frame new.frame) (new ∷ keys) (new ∷ key ∷ keys)))) [
      | true ↦ later
      | false ↦ elim (int_eq key.frame new.frame) as (λ b. All P (cond b (new ∷ keys) (new ∷ key ∷ keys))) [
        | true ↦ All-cons P new keys here rest
        | false ↦ All-cons P new (key ∷ keys) here all
      ]
    ]

abbrev Earlier : Key → Key → Type 0
Earlier a b = a.frame <ℤ b.frame

pub IsRising-with_key : (keys : List Key) (new : Key) → IsRising keys → IsRising (with_key keys new)
IsRising-with_key [] new rising = AllPairs-cons Earlier new [] (All-nil (Earlier new)) rising
IsRising-with_key (key ∷ keys) new rising =
    let below = first_below key keys rising in
    let rest = rising_rest key keys rising in
    elim (lt_z key.frame new.frame) as (λ b. lt_z key.frame new.frame ≡ b → IsRising (cond b (key ∷ with_key keys new) (cond (int_eq key.frame new.frame) (new ∷ keys) (new ∷ key ∷ keys)))) [
      | true ↦ λ lt. AllPairs-cons Earlier key (with_key keys new) (All-with_key (Earlier key) keys new (grind (arith, ints)) below) (IsRising-with_key keys new rest)
      | false ↦ λ lt. elim (int_eq key.frame new.frame) as (λ b. int_eq key.frame new.frame ≡ b → IsRising (cond b (new ∷ keys) (new ∷ key ∷ keys))) [
        | true ↦ λ eq. AllPairs-cons Earlier new keys (All-weaker (Earlier key) (Earlier new) (λ later h. grind (arith, ints)) keys below) rest
        | false ↦ λ eq. AllPairs-cons Earlier new (key ∷ keys) (All-cons (Earlier new) key keys (grind (arith, ints)) (All-weaker (Earlier key) (Earlier new) (λ later h. grind (arith, ints)) keys below)) rising
      ] refl
    ] refl

pub IsRising-without_key : (keys : List Key) (frame : ℤ) → IsRising keys → IsRising (without_key keys frame)
IsRising-without_key keys frame rising = AllPairs-filter Earlier (λ key. not (int_eq key.frame frame)) keys rising

pub All-without_key : (P : Key → Type 0) (keys : List Key) (frame : ℤ) → All P keys → All P (without_key keys frame)
All-without_key P keys frame all = All-filter (λ key. not (int_eq key.frame frame)) P keys all

-- ---- the keys as a map

key_at-with_key : (keys : List Key) (new : Key) (f : ℤ) → key_at (with_key keys new) f ≡ cond (int_eq new.frame f) (Some new.value) (key_at keys f)
key_at-with_key [] new f = refl
key_at-with_key (key ∷ keys) new f = grind (arith, ints, key_at-with_key keys new f)

key_at-without_key : (keys : List Key) (frame f : ℤ) → key_at (without_key keys frame) f ≡ cond (int_eq frame f) None (key_at keys f)
key_at-without_key [] frame f = grind (arith, ints)
key_at-without_key (key ∷ keys) frame f = grind (arith, ints, key_at-without_key keys frame f)

pub changes_with : (keys : List Key) (new : Key) → ChangesKey keys (with_key keys new) new.frame (Some new.value)
changes_with keys new = record {
  at_frame = key_at-with_key keys new new.frame ∙ cond-true _ _ _ (eq_is new.frame new.frame refl);
  elsewhere = λ f other. key_at-with_key keys new f ∙ cond-false _ _ _ (eq_not new.frame f (λ e. other (sym e)));
}

pub changes_without : (keys : List Key) (frame : ℤ) → ChangesKey keys (without_key keys frame) frame None
changes_without keys frame = record {
  at_frame = key_at-without_key keys frame frame ∙ cond-true _ _ _ (eq_is frame frame refl);
  elsewhere = λ f other. key_at-without_key keys frame f ∙ cond-false _ _ _ (eq_not frame f (λ e. other (sym e)));
}

-- the key is there, or it isn't
pub key_at_place : (keys : List Key) (frame : ℤ) (i : ℕ) → IsRising keys → IsAt keys frame i → key_at keys frame ≡ Some (get_or keys i no_key).value
key_at_place [] frame i rising is = absurd (omega (arith, is.in_range))
key_at_place (key ∷ keys) frame zero rising is = cond-true _ _ _ (eq_is key.frame frame is.has_frame)
key_at_place (key ∷ keys) frame (suc i) rising is =
    let below = rises (key ∷ keys) rising 0 (suc i) (omega arith) is.in_range in
    let differs : key.frame ≢ frame = λ e. omega (arith, ints, is.has_frame, e) in
    cond-false _ _ _ (eq_not key.frame frame differs) ∙ key_at_place keys frame i (rising_rest key keys rising) (at_rest key keys frame i is)

key_at_none : (keys : List Key) (frame : ℤ) → ((j : ℕ) → j < length keys → frame_at keys j ≢ frame) → key_at keys frame ≡ None
key_at_none [] frame differ = refl
key_at_none (key ∷ keys) frame differ =
    cond-false _ _ _ (eq_not key.frame frame (differ 0 (omega arith))) ∙ key_at_none keys frame (λ j lt. differ (suc j) (omega arith))

gap_differs : (keys : List Key) (frame : ℤ) (i j : ℕ) → IsGapFor keys frame i → j < length keys → frame_at keys j ≢ frame
gap_differs keys frame i j gap lt e = grind (arith, ints, gap.earlier_before j, gap.later_after j)

pub key_at_gap : (keys : List Key) (frame : ℤ) (i : ℕ) → IsGapFor keys frame i → key_at keys frame ≡ None
key_at_gap keys frame i gap = key_at_none keys frame (λ j lt. gap_differs keys frame i j gap lt)

-- ---- the place of a key

position_is : (p : Key → Bool) (keys : List Key) (n : ℕ) → position_or_len p keys ≡ n → position p keys ≡ cond (ltb n (length keys)) (Some n) None
position_is p keys n e = ap (λ k. cond (ltb k (length keys)) (Some k) None) e

pub position_at : (keys : List Key) (frame : ℤ) (i : ℕ) → IsRising keys → IsAt keys frame i → position (λ key. int_eq key.frame frame) keys ≡ Some i
position_at keys frame i rising is =
    let stands : int_eq (get_or keys i no_key).frame frame ≡ true = eq_is (frame_at keys i) frame is.has_frame in
    let first = prefix_len_is (λ key. not (int_eq key.frame frame)) keys i no_key (omega (arith, is.in_range)) (λ k lt.
    let earlier = rises keys rising k i lt is.in_range in
    let differs : frame_at keys k ≢ frame = λ e. omega (arith, ints, is.has_frame, e) in
    ap not (eq_not (frame_at keys k) frame differs)) (λ _. ap not stands) in
    position_is (λ key. int_eq key.frame frame) keys i first ∙ cond-true (ltb i (length keys)) (Some i) None (grind (arith, nat_tests, is.in_range))

pub position_gap : (keys : List Key) (frame : ℤ) (i : ℕ) → IsGapFor keys frame i → position (λ key. int_eq key.frame frame) keys ≡ None
position_gap keys frame i gap =
    let first = prefix_len_is (λ key. not (int_eq key.frame frame)) keys (length keys) no_key (omega arith) (λ k lt. ap not (eq_not (frame_at keys k) frame (gap_differs keys frame i k gap lt))) (λ lt. absurd (omega arith)) in
    position_is (λ key. int_eq key.frame frame) keys (length keys) first ∙ cond-false (ltb (length keys) (length keys)) (Some (length keys)) None (grind (arith, nat_tests))

-- ---- how many keys there are at most

room_after : (frame : ℤ) (keys : List Key) → All (λ key. frame <ℤ key.frame) keys → All (λ key. IsFrame key.frame) keys → IsRising keys → frame ≤ℤ pos 1073741824 → pos (length keys) ≤ℤ (pos 1073741824 -ℤ frame)
room_after frame [] above frames rising low = omega (arith, ints)
room_after frame (key ∷ keys) above frames rising low =
    let here = All-head (λ key. frame <ℤ key.frame) key keys above in
    let high = All-head (λ key. IsFrame key.frame) key keys frames in
    let rest = room_after key.frame keys (first_below key keys rising) (All-tail (λ key. IsFrame key.frame) key keys frames) (rising_rest key keys rising) high.1 in
    omega (arith, ints)

pub few_keys : (keys : List Key) → All (λ key. IsFrame key.frame) keys → IsRising keys → length keys < 2 ^ 32
few_keys [] frames rising = omega arith
few_keys (key ∷ keys) frames rising =
    let here = All-head (λ key. IsFrame key.frame) key keys frames in
    let rest = room_after key.frame keys (first_below key keys rising) (All-tail (λ key. IsFrame key.frame) key keys frames) (rising_rest key keys rising) here.1 in
    omega (arith, ints)
