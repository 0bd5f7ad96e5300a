-- The frames of spans.
use Rattle.std.proofs.Common.{◌≡◌, ◌<◌, ℕ, zero, suc, ℤ, pos, negsuc, ◌+ℤ◌, ◌≤ℤ◌, ◌<ℤ◌, Bool, true, false, cond, List, [], ◌∷◌, ◌++◌, length, refl, sym, ap, ◌∙◌, arith, nat_eq, neg_ℤ, subst, FitsSigned, w64}
use Rattle.std.specs.List.{All}
use Rattle.std.proofs.lemmas.List.Elements.{All-head, All-tail}
use Rattle.fx_scene.specs.Frames.{IsSmallSpan, first_least, frames_of, greatest, in_some, int_run, int_span, last_greatest, least}
use Rattle.std.proofs.lemmas.Int.{ints, clamps}
use Rattle.std.specs.Int.Signed.{lt_z}
use Rattle.std.specs.Int.{int_gap, int_min, int_max}
use Rattle.std.proofs.lemmas.Bool.Decides.{nat_tests}
use Rattle.std.specs.List.{filter}
use Rattle.fx_image.proofs.ImageLaws.{gap_is}

gap_more : (a b : ℤ) → a <ℤ b → int_gap a b ≡ suc (int_gap (a +ℤ pos 1) b)
gap_more a b h = let p = gap_is a b (omega (arith, ints)) in let q = gap_is (a +ℤ pos 1) b (omega (arith, ints)) in omega (arith, ints)

gap_none : (a b : ℤ) → b ≤ℤ a → int_gap a b ≡ 0
gap_none (pos a) (pos b) h = omega (arith, ints)
gap_none (pos a) (negsuc b) h = omega (arith, ints)
gap_none (negsuc a) (pos b) h = absurd (omega (arith, ints))
gap_none (negsuc a) (negsuc b) h = omega (arith, ints)

filter_one : (p : ℤ → Bool) (xs rest : List ℤ) (f : ℤ) → (xs ++ filter p (f ∷ [])) ++ filter p rest ≡ xs ++ filter p (f ∷ rest)
filter_one p [] rest f = one_by (p f)
  where
    one_by : (b : Bool) → cond b (f ∷ []) [] ++ filter p rest ≡ cond b (f ∷ filter p rest) (filter p rest)
    one_by true = refl
    one_by false = refl
filter_one p (x ∷ xs) rest f = ap (λ (ys : List ℤ). x ∷ ys) (filter_one p xs rest f)

pub frames_step : (p : ℤ → Bool) (xs now whole : List ℤ) (f last : ℤ) → f ≤ℤ last → now ≡ xs ++ filter p (f ∷ []) → xs ++ filter p (int_span f last) ≡ whole → now ++ filter p (int_span (f +ℤ pos 1) last) ≡ whole
frames_step p xs now whole f last low pushed so =
    ap (λ (ys : List ℤ). ys ++ filter p (int_span (f +ℤ pos 1) last)) pushed ∙ filter_one p xs (int_span (f +ℤ pos 1) last) f
    ∙ ap (λ (n : ℕ). xs ++ filter p (int_run f n)) (sym (gap_more f (last +ℤ pos 1) (omega (arith, ints)))) ∙ so

none_right : (xs : List ℤ) → xs ++ [] ≡ xs
none_right [] = refl
none_right (x ∷ xs) = ap (λ (ys : List ℤ). x ∷ ys) (none_right xs)

pub frames_end : (p : ℤ → Bool) (xs whole : List ℤ) (f last : ℤ) → (last +ℤ pos 1) ≤ℤ f → xs ++ filter p (int_span f last) ≡ whole → xs ≡ whole
frames_end p xs whole f last past so = sym (none_right xs) ∙ sym (ap (λ (n : ℕ). xs ++ filter p (int_run f n)) (gap_none f (last +ℤ pos 1) past)) ∙ so

eq_zero : (n : ℕ) → nat_eq n 0 ≡ true → n ≡ 0
eq_zero n h = grind (arith, nat_tests)

pub none_frames : (spans : List (ℤ × ℤ)) → nat_eq (length spans) 0 ≡ true → frames_of spans ≡ []
unfolding frames_of
none_frames [] h = refl
none_frames (p ∷ ps) h = let e = eq_zero (length (p ∷ ps)) h in absurd (omega (arith, e))

min_same : (a : ℤ) → int_min a a ≡ a
min_same a = omega (arith, ints, clamps)

max_same : (a : ℤ) → int_max a a ≡ a
max_same a = omega (arith, ints, clamps)

pub frames_start : (spans : List (ℤ × ℤ)) → 0 < length spans → filter (in_some spans) (int_span (first_least spans) (last_greatest spans)) ≡ frames_of spans
unfolding frames_of
frames_start [] h = absurd (omega arith)
frames_start (p ∷ ps) h =
    ap (λ (a : ℤ). filter (in_some (p ∷ ps)) (int_span (least a ps) (greatest (int_max p.1 p.1) ps))) (min_same p.0)
    ∙ ap (λ (b : ℤ). filter (in_some (p ∷ ps)) (int_span (least p.0 ps) (greatest b ps))) (max_same p.1)

greatest_up : (ps : List (ℤ × ℤ)) (a : ℤ) → neg_ℤ (pos 2147483648) ≤ℤ a → a ≤ℤ pos 2147483648 → All IsSmallSpan ps → (neg_ℤ (pos 2147483648) ≤ℤ greatest a ps) × (greatest a ps ≤ℤ pos 2147483648)
greatest_up [] a l h s = (l, h)
greatest_up (q ∷ qs) a l h s =
    let near = All-head IsSmallSpan q qs s in let u = near.last_high in let v = near.last_low in
    greatest_up qs (int_max a q.1) (omega (arith, ints, clamps)) (omega (arith, ints, clamps)) (All-tail IsSmallSpan q qs s)

pub greatest_near : (ps : List (ℤ × ℤ)) (z : ℤ) → All IsSmallSpan ps → 0 < length ps → z ≡ last_greatest ps → (neg_ℤ (pos 2147483648) ≤ℤ z) × (z ≤ℤ pos 2147483648)
greatest_near [] z s h e = absurd (omega arith)
greatest_near (p ∷ ps) z s h e =
    let near = All-head IsSmallSpan p ps s in
    subst (λ (y : ℤ). (neg_ℤ (pos 2147483648) ≤ℤ y) × (y ≤ℤ pos 2147483648)) (sym e) (greatest_up (p ∷ ps) p.1 near.last_low near.last_high s)

pub up_to : (f last : ℤ) → lt_z f (last +ℤ pos 1) ≡ true → f ≤ℤ last
up_to f last h = let e : f <ℤ (last +ℤ pos 1) = lt_of f (last +ℤ pos 1) h in omega (arith, ints)
  where
    lt_of : (a b : ℤ) → lt_z a b ≡ true → a <ℤ b
    lt_of a b e = grind (arith, ints)

pub past_it : (f last : ℤ) → lt_z f (last +ℤ pos 1) ≡ false → (last +ℤ pos 1) ≤ℤ f
past_it f last h = ge_of f (last +ℤ pos 1) h
  where
    ge_of : (a b : ℤ) → lt_z a b ≡ false → b ≤ℤ a
    ge_of a b e = grind (arith, ints)

pub sum_fits : (z : ℤ) → neg_ℤ (pos 2147483648) ≤ℤ z → z ≤ℤ pos 2147483648 → FitsSigned w64 (z +ℤ pos 1)
sum_fits (pos n) l h = omega (arith, ints)
sum_fits (negsuc zero) l h = omega (arith, ints)
sum_fits (negsuc (suc n)) l h = omega (arith, ints)
