use Rattle.std.proofs.Common.{◌≡◌, ◌<◌, ◌≤◌, inl, inr, ℕ, ◌+◌, ◌*◌, ◌/◌, ◌%◌, ◌==◌, ◌||◌, true, false, T, cond, leb, ltb, List, ◌++◌, length, get_or, map, ap, sym, arith, refl, ◌∙◌, w8, if◌then◌else◌}
use Rattle.std.specs.List.{range_with_len}
use Rattle.std.specs.Simd.Lanes.{pick_l, zip2}
use Rattle.std.proofs.lemmas.Bool.Decides.{nat_tests}
use Rattle.std.proofs.lemmas.Float.{T_from_true}
use Rattle.std.proofs.lemmas.List.{get_or_append_left}
use Rattle.std.proofs.lemmas.List.FromFn.{get_or-map-range_with_len}
use Rattle.std.proofs.lemmas.Simd.{Each1-from_get_or, get_or-zip2, swz_l, SwzOk, get_or-swz_l, SwzOk-from_Each1}
use Rattle.fx_point.specs.Picks.{IsPlace, byte_at}
use Rattle.fx_point.proofs.Places.{picked}
use Rattle.fx_point.proofs.shuffle.picked.Goals as goal

-- the places for all lanes, each within its half
abbrev first : ℕ → ℕ
first j = j / 4 % 4 * 4

abbrev all : List ℕ → List ℕ
all places =
    zip2 (λ a b. (a + b) % 256) (pick_l 0 (places ++ places) (map (λ j. j % 4) (range_with_len 0 32)))
    (map first (range_with_len 0 32))

all_lane : (places : List ℕ) (j : ℕ) → length places ≡ 4 → j < 32
    → get_or (all places) j 0 ≡ (get_or places (j % 4) 0 + first j) % 256
all_lane places j long low =
    let repeated = pick_l 0 (places ++ places) (map (λ j. j % 4) (range_with_len 0 32)) in
    let firsts = map first (range_with_len 0 32) in
    let place : get_or repeated j 0 ≡ get_or places (j % 4) 0 =
    picked (places ++ places) (λ j. j % 4) j low ∙ get_or_append_left places places 0 (j % 4) (omega (arith, long)) in
    get_or-zip2 (λ a b. (a + b) % 256) repeated firsts j 0 0 0 low low
    ∙ ap (λ a. (a + get_or firsts j 0) % 256) place
    ∙ ap (λ b. (get_or places (j % 4) 0 + b) % 256) (get_or-map-range_with_len first 0 32 j j 0 low (omega arith))

is_low : (q : ℕ) → q < 16 → (leb 128 q || ltb q 16) ≡ true
is_low q low = grind (arith, nat_tests)

is_high : (q : ℕ) → 128 ≤ q → (leb 128 q || ltb q 16) ≡ true
is_high q high = grind (arith, nat_tests)

is_read : (p n : ℕ) → IsPlace p → n ≤ 12 → (leb 128 ((p + n) % 256) || ltb ((p + n) % 256) 16) ≡ true
is_read p n (inl few) low = is_low ((p + n) % 256) (omega (arith, few, low))
is_read p n (inr none) low = is_high ((p + n) % 256) (omega (arith, none, low))

all_read : (places : List ℕ) → length places ≡ 4 → ((k : ℕ) → k < 4 → IsPlace (get_or places k 0))
    → SwzOk w8 16 32 0 (all places)
all_read places long are =
    SwzOk-from_Each1 w8 16 2 32 0 (all places) refl (omega arith) (
    Each1-from_get_or (λ q. T (leb 128 q || ltb q 16)) (all places) 0 (
    λ j low.
    T_from_true (leb 128 (get_or (all places) j 0) || ltb (get_or (all places) j 0) 16) (
    ap (λ q. leb 128 q || ltb q 16) (all_lane places j long low)
    ∙ is_read (get_or places (j % 4) 0) (first j) (are (j % 4) (omega arith)) (omega arith)
    )
    )
    )

high : (q : ℕ) → 128 ≤ q → leb 128 q ≡ true
high q is = grind (arith, nat_tests)

low : (q : ℕ) → q < 128 → leb 128 q ≡ false
low q is = grind (arith, nat_tests)

some : (p : ℕ) → p < 4 → (p == 128) ≡ false
some p few = grind (arith, nat_tests)

abbrev read : List ℕ → ℕ → ℕ → ℕ
read pixels m q = cond (leb 128 q) 0 (get_or pixels (16 * ((0 + m) / 16) + q) 0)

read_at : (pixels : List ℕ) (i k p : ℕ) → i < 8 → k < 4 → IsPlace p
    → read pixels (4 * i + k) ((p + i % 4 * 4) % 256) ≡ byte_at pixels i p
read_at pixels i k p within few (inl is) =
    let q = (p + i % 4 * 4) % 256 in
    let at : 16 * ((0 + (4 * i + k)) / 16) + q ≡ 4 * i + p = omega (arith, within, few, is) in
    ap (λ t. cond t 0 (get_or pixels (16 * ((0 + (4 * i + k)) / 16) + q) 0)) (low q (omega (arith, is)))
    ∙ ap (λ n. get_or pixels n 0) at
    ∙ ap (λ t. if t then 0 else get_or pixels (4 * i + p) 0) (sym (some p is))
read_at pixels i k p within few (inr is) =
    let q = (p + i % 4 * 4) % 256 in
    ap (λ t. cond t 0 (get_or pixels (16 * ((0 + (4 * i + k)) / 16) + q) 0)) (high q (omega (arith, is)))
    ∙ ap (λ n. if n == 128 then 0 else get_or pixels (4 * i + p) 0) (sym is)

lane : (pixels places : List ℕ) (i k : ℕ) → length places ≡ 4 → i < 8 → k < 4 → IsPlace (get_or places k 0)
    → get_or (swz_l w8 16 pixels 0 (all places)) (4 * i + k) 0 ≡ byte_at pixels i (get_or places k 0)
lane pixels places i k long within few is =
    let j = 4 * i + k in
    let below : j < 32 = omega (arith, within, few) in
    let q : get_or (all places) j 0 ≡ (get_or places k 0 + i % 4 * 4) % 256 =
    all_lane places j long below
    ∙ ap (λ n. (get_or places n 0 + first j) % 256) (omega (arith, few))
    ∙ ap (λ n. (get_or places k 0 + n) % 256) (omega (arith, few)) in
    get_or-swz_l w8 16 pixels 0 (all places) j below ∙ ap (read pixels j) q
    ∙ read_at pixels i k (get_or places k 0) within few is

pub swizzle : goal.swizzle
swizzle c = all_read c.args.places c.fits-places.0 c.requires

pub returns : goal.returns
returns c = λ i k within few. lane c.args.pixels c.args.places i k c.fits-places.0 within few (c.requires k few)
