-- Members of lists, floors, the frames of spans, and the tile of a place.
use Rattle.std.proofs.Common.{◌≡◌, ℕ, zero, suc, ◌<◌, ◌≤◌, ◌+◌, ◌*◌, ◌/◌, ◌%◌, ℤ, pos, negsuc, neg_ℤ, ◌*ℤ◌, ◌<ℤ◌, ◌≤ℤ◌, ◌+ℤ◌, ◌-ℤ◌, Bool, true, false, not, cond, ◌&&◌, ◌||◌, refl, arith, sym, ap, ◌∙◌, List, [], ◌∷◌, ◌++◌, map, length, get_or, subst, rules}
use Rattle.std.proofs.lemmas.Int.{ints, clamps}
use Rattle.std.proofs.lemmas.List.Elements.{All-nil, All-cons, All-append, All-head, All-tail}
use Rattle.std.specs.List.{All, Contains, flat_map, filter, range_with_len}
use Rattle.std.proofs.lemmas.Nat.{div-add-mod', le-div}
use Rattle.std.proofs.Math.Nat.{div-mul-le_self, mod-lt}
use Rattle.std.proofs.lemmas.Bool.{cases_eq, cases_Bool, or_right, and_parts}
use Rattle.std.specs.Int.{int_div_euclid, int_min, int_max, int_gap}
use Rattle.std.specs.Int.Signed.{lt_z, le_z}
use Rattle.fx_base.specs.Bounds.{Bounds}
use Rattle.fx_base.specs.Rect.{Holds, within, is_empty}
use Rattle.fx_base.proofs.RectLemmas.{IsInside-from_holds, Holds-from_inside, is_empty-holds}
use Rattle.fx_scene.specs.Frames.{frames_of, greatest, in_some, int_run, int_span, least}
use mathlib.Core.Logic.{◌⊎◌, inl, inr}

-- the element is in the list
abbrev pub In : {X : Type 0} → List X → X → Type 0
In [] y = ⊥
In (x ∷ xs) y = (x ≡ y) ⊎ In xs y

pub in_at : {X : Type 0} (xs : List X) (y : X) (k : ℕ) → k < length xs → get_or xs k y ≡ y → In xs y
in_at [] y k l e = absurd (omega arith)
in_at (x ∷ xs) y zero l e = inl e
in_at (x ∷ xs) y (suc k) l e = inr (in_at xs y k (omega arith) e)

pub in_of : {X : Type 0} (xs : List X) (y : X) → Contains xs y → In xs y
in_of xs y c = in_at xs y c.0 c.1 c.2

-- what is in a list is contained
pub contained : {X : Type 0} (xs : List X) (y : X) → In xs y → Contains xs y
contained [] y h = absurd h
contained (x ∷ xs) y h = elim h [
  | inl e ↦ (0, omega arith, e)
  | inr i ↦ let at = contained xs y i in (suc at.0, (let low = at.1 in omega (arith, low)), at.2)
]

pub all_in : {X : Type 0} (P : X → Type 0) (xs : List X) (y : X) → All P xs → In xs y → P y
all_in P [] y a h = absurd h
all_in {X} P (x ∷ xs) y a h = elim h [ inl e ↦ subst P e (All-head P x xs a) | inr i ↦ all_in P xs y (All-tail P x xs a) i ]

pub in_left : {X : Type 0} (xs ys : List X) (y : X) → In xs y → In (xs ++ ys) y
in_left [] ys y h = absurd h
in_left (x ∷ xs) ys y h = elim h [ inl e ↦ inl e | inr i ↦ inr (in_left xs ys y i) ]

pub in_right : {X : Type 0} (xs ys : List X) (y : X) → In ys y → In (xs ++ ys) y
in_right [] ys y h = h
in_right (x ∷ xs) ys y h = inr (in_right xs ys y h)

pub in_flat : {X Y : Type 0} (f : X → List Y) (xs : List X) (x : X) (y : Y) → In xs x → In (f x) y → In (flat_map f xs) y
in_flat {X} f [] x y h i = absurd h
in_flat {X} f (z ∷ xs) x y h i = elim h [
  | inl e ↦ in_left (f z) (flat_map f xs) y (subst (λ (w : X). In (f w) y) (sym e) i)
  | inr j ↦ in_right (f z) (flat_map f xs) y (in_flat f xs x y j i)
]

pub in_map : {X Y : Type 0} (f : X → Y) (xs : List X) (x : X) → In xs x → In (map f xs) (f x)
in_map f [] x h = absurd h
in_map f (z ∷ xs) x h = elim h [ inl e ↦ inl (ap f e) | inr j ↦ inr (in_map f xs x j) ]

filter_cons : {X : Type 0} (b : Bool) (x : X) (xs : List X) (y : X) → In xs y → In (cond b (x ∷ xs) xs) y
filter_cons true x xs y h = inr h
filter_cons false x xs y h = h

pub in_filter : {X : Type 0} (p : X → Bool) (xs : List X) (y : X) → In xs y → p y ≡ true → In (filter p xs) y
in_filter p [] y h e = absurd h
in_filter p (z ∷ xs) y h e = elim h [
  | inl q ↦ rw (ap p q ∙ e) (inl q)
  | inr j ↦ filter_cons (p z) z (filter p xs) y (in_filter p xs y j e)
]

pub All-flat : {X Y : Type 0} (P : Y → Type 0) (f : X → List Y) → ((x : X) → All P (f x)) → (xs : List X) → All P (flat_map f xs)
All-flat P f h [] = All-nil P
All-flat P f h (x ∷ xs) = All-append P (f x) (flat_map f xs) (h x) (All-flat P f h xs)

pub in_range : (a n c : ℕ) → a ≤ c → c < a + n → In (range_with_len a n) c
in_range a zero c h l = absurd (omega arith)
in_range a (suc n) c h l = elim (cases_eq a c) [ inl e ↦ inl e | inr e ↦ inr (in_range (a + 1) n c (omega arith) (omega arith)) ]

above : (a f : ℤ) → lt_z a f ≡ true → (a +ℤ pos 1) ≤ℤ f
above a f e = grind (arith, ints)

same : (a f : ℤ) → a ≤ℤ f → lt_z a f ≡ false → a ≡ f
same a f h e = grind (arith, ints)

eq_or_above : (a f : ℤ) → a ≤ℤ f → (a ≡ f) ⊎ ((a +ℤ pos 1) ≤ℤ f)
eq_or_above a f h = elim (cases_Bool (lt_z a f)) [ inl e ↦ inr (above a f e) | inr e ↦ inl (same a f h e) ]

pub in_run : (a : ℤ) (n : ℕ) (f : ℤ) → a ≤ℤ f → f <ℤ (a +ℤ pos n) → In (int_run a n) f
in_run a zero f h l = absurd (omega (arith, ints))
in_run a (suc n) f h l = elim (eq_or_above a f h) [ inl e ↦ inl e | inr e ↦ inr (in_run (a +ℤ pos 1) n f e (omega (arith, ints))) ]

pub gap_is : (a b : ℤ) → a ≤ℤ b → a +ℤ pos (int_gap a b) ≡ b
gap_is (pos a) (pos b) h = omega (arith, ints)
gap_is (pos a) (negsuc b) h = absurd (omega (arith, ints))
gap_is (negsuc a) (pos b) h = omega (arith, ints)
gap_is (negsuc a) (negsuc b) h = omega (arith, ints)

pub in_span : (first last f : ℤ) → first ≤ℤ f → f ≤ℤ last → In (int_span first last) f
in_span first last f h l = let e = gap_is first (last +ℤ pos 1) (omega (arith, ints)) in in_run first (int_gap first (last +ℤ pos 1)) f h (omega (arith, ints))

-- ---- frames

least_le : (ps : List (ℤ × ℤ)) (a : ℤ) → least a ps ≤ℤ a
least_le [] a = omega (arith, ints)
least_le (q ∷ qs) a = let h = least_le qs (int_min a q.0) in omega (arith, ints, clamps)

least_in : (ps : List (ℤ × ℤ)) (a : ℤ) (p : ℤ × ℤ) → In ps p → least a ps ≤ℤ p.0
least_in [] a p h = absurd h
least_in (q ∷ qs) a p h = elim h [
  | inl e ↦ let k = least_le qs (int_min a q.0) in let e' : q.0 ≡ p.0 = ap (λ (z : ℤ × ℤ). z.0) e in omega (arith, ints, clamps)
  | inr i ↦ least_in qs (int_min a q.0) p i
]

greatest_le : (ps : List (ℤ × ℤ)) (a : ℤ) → a ≤ℤ greatest a ps
greatest_le [] a = omega (arith, ints)
greatest_le (q ∷ qs) a = let h = greatest_le qs (int_max a q.1) in omega (arith, ints, clamps)

greatest_in : (ps : List (ℤ × ℤ)) (a : ℤ) (p : ℤ × ℤ) → In ps p → p.1 ≤ℤ greatest a ps
greatest_in [] a p h = absurd h
greatest_in (q ∷ qs) a p h = elim h [
  | inl e ↦ let k = greatest_le qs (int_max a q.1) in let e' : q.1 ≡ p.1 = ap (λ (z : ℤ × ℤ). z.1) e in omega (arith, ints, clamps)
  | inr i ↦ greatest_in qs (int_max a q.1) p i
]

low : (q : ℤ × ℤ) (qs : List (ℤ × ℤ)) (p : ℤ × ℤ) → In (q ∷ qs) p → least q.0 qs ≤ℤ p.0
low q qs p h = elim h [
  | inl e ↦ let k = least_le qs q.0 in let e' : q.0 ≡ p.0 = ap (λ (z : ℤ × ℤ). z.0) e in omega (arith, ints)
  | inr i ↦ least_in qs q.0 p i
]

high : (q : ℤ × ℤ) (qs : List (ℤ × ℤ)) (p : ℤ × ℤ) → In (q ∷ qs) p → p.1 ≤ℤ greatest q.1 qs
high q qs p h = elim h [
  | inl e ↦ let k = greatest_le qs q.1 in let e' : q.1 ≡ p.1 = ap (λ (z : ℤ × ℤ). z.1) e in omega (arith, ints)
  | inr i ↦ greatest_in qs q.1 p i
]

le_is : (a b : ℤ) → a ≤ℤ b → le_z a b ≡ true
le_is a b h = grind (arith, ints)

pub in_some_at : (ps : List (ℤ × ℤ)) (p : ℤ × ℤ) (f : ℤ) → In ps p → p.0 ≤ℤ f → f ≤ℤ p.1 → in_some ps f ≡ true
in_some_at [] p f h a b = absurd h
in_some_at (q ∷ qs) p f h a b = elim h [
  | inl e ↦ let e0 : q.0 ≡ p.0 = ap (λ (z : ℤ × ℤ). z.0) e in let e1 : q.1 ≡ p.1 = ap (λ (z : ℤ × ℤ). z.1) e in rw (le_is q.0 f (omega (arith, ints)), le_is f q.1 (omega (arith, ints))) refl
  | inr i ↦ or_right (le_z q.0 f && le_z f q.1) (in_some qs f) (in_some_at qs p f i a b)
]

-- a frame of a span is among the frames
pub frames_have : (ps : List (ℤ × ℤ)) (p : ℤ × ℤ) (f : ℤ) → In ps p → p.0 ≤ℤ f → f ≤ℤ p.1 → In (frames_of ps) f
unfolding frames_of
frames_have [] p f h a b = absurd h
frames_have (q ∷ qs) p f h a b =
    in_filter (in_some (q ∷ qs)) (int_span (least q.0 qs) (greatest q.1 qs)) f
    (let lo = low q qs p h in let hi = high q qs p h in in_span (least q.0 qs) (greatest q.1 qs) f (omega (arith, ints)) (omega (arith, ints)))
    (in_some_at (q ∷ qs) p f h a b)

pub all_from : {X : Type 0} (P : X → Type 0) (xs : List X) → ((x : X) → In xs x → P x) → All P xs
all_from P [] h = All-nil P
all_from P (x ∷ xs) h = All-cons P x xs (h x (inl refl)) (all_from P xs (λ y i. h y (inr i)))

-- equal values of the taps give equal lists
pub map_same : {X Y : Type 0} (f g : X → Y) (P : X → Type 0) → ((x : X) → P x → f x ≡ g x) → (xs : List X) → ((x : X) → In xs x → P x) → map f xs ≡ map g xs
map_same f g P h [] a = refl
map_same f g P h (x ∷ xs) a =
    ap (λ y. y ∷ map f xs) (h x (a x (inl refl))) ∙ ap (λ l. g x ∷ l) (map_same f g P h xs (λ y i. a y (inr i)))
