-- What is read moment by moment, what is new of it, and how many bytes are held.
use Rattle.std.proofs.Common.{◌≡◌, ◌<◌, ◌≤◌, ℕ, zero, suc, ℤ, ◌+◌, ◌-◌, ◌&&◌, nat_eq, nat_lt, nat_le, List, [], ◌∷◌, ◌++◌, map, filter, get_or, sum_by, Bool, true, false, cond, Option, Some, None, AllPairs, Contains, IsSome, refl, sym, ap, ◌∙◌, subst, arith, ⊎_elim}
use Rattle.std.specs.List.{list_any, AllZip}
use Rattle.std.specs.Ordering.{int_eq}
use Rattle.std.proofs.lemmas.Bool.{and_parts, cases_lt, false_from_ne_true, false≢true}
use Rattle.std.proofs.lemmas.Bool.Decides.{nat_tests, Decides-int_eq}
use Rattle.std.proofs.lemmas.List.{get_or_default}
use Rattle.std.proofs.lemmas.List.Elements.{All-contains, Contains-append_cases, Contains-append_left, Contains-append_right, Contains-get_or, filter-append}
use Rattle.std.proofs.lemmas.List.Folds.{Any-from_list_any, list_any_at}
use Rattle.std.proofs.lemmas.List.Sums.{sum_by-append, sum_by-cons, sum_by-le-sum_by}
use Rattle.fx_outside.specs.Outside.{Files}
use Rattle.fx_seq.specs.declared.source.SourceFrame.{SourceFrame}
use Rattle.fx_seq.specs.declared.used.Use.{Use}
use Rattle.fx_seq.specs.declared.wanted.Wanted.{Wanted}
use Rattle.fx_seq.specs.Filling.{IsApart, size_under}
use Rattle.fx_seq.specs.Frames.{IsPicture}
use Rattle.fx_image.specs.Stored.{Stored}
use Rattle.fx_seq.specs.declared.store.Store.{Store}
use Rattle.fx_seq.specs.Held.{HasRead, fetched, got_frames, held, held_frames}
use Rattle.fx_seq.specs.Windows.{HasTaken}
use Rattle.fx_seq.specs.Lists.{AreFramesOf, ArePictures, IsFrameOf, IsNew, frames_in, is_of, is_used_frame, size_of_all, used_part, used_size}
use Rattle.fx_seq.specs.Moments.{AreOnce, due_at, due_until, held_bytes, is_used}
use Rattle.fx_seq.proofs.FillingLemmas.{picture_size}
use Rattle.fx_seq.proofs.LookLemmas.{frames_from, look-filter, nat_itself, nat_same, of_itself}
use Rattle.fx_seq.proofs.Reading.{zip_append}

-- ---- each once

clash : (uses : List Use) → AllPairs (λ u v. IsApart u.wanted v.wanted) uses → (u v : Use) (a : Contains uses u) (b : Contains uses v)
    → a.0 < b.0 → u.wanted.node ≡ v.wanted.node → u.wanted.frame ≡ v.wanted.frame → ⊥
clash uses apart u v a b low node frame =
    let pair : IsApart (get_or uses a.0 u).wanted (get_or uses b.0 u).wanted = apart a.0 b.0 u low b.1 in
    let there : get_or uses b.0 u ≡ v = get_or_default uses b.0 u v b.1 ∙ b.2 in
    let p : IsApart u.wanted v.wanted =
    subst (λ (x : Use). IsApart x.wanted v.wanted) a.2
    (subst (λ (y : Use). IsApart (get_or uses a.0 u).wanted y.wanted) there pair) in
    p node frame

-- uses of the same node's frame are one
pub use_once : (uses : List Use) → AreOnce uses → (u v : Use) → Contains uses u → Contains uses v
    → u.wanted.node ≡ v.wanted.node → u.wanted.frame ≡ v.wanted.frame → u ≡ v
use_once uses each u v a b node frame =
    ⊎_elim (λ low. absurd (clash uses each.apart u v a b low node frame))
    (λ high. ⊎_elim (λ low. absurd (clash uses each.apart v u b a low (sym node) (sym frame))) (λ low.
    let same : a.0 ≡ b.0 = omega (arith, high, low) in
    sym a.2 ∙ ap (λ (i : ℕ). get_or uses i u) same ∙ get_or_default uses b.0 u v b.1 ∙ b.2) (cases_lt b.0 a.0))
    (cases_lt a.0 b.0)

-- whether it is used at a moment or later
pub used_at : (uses : List Use) → AreOnce uses → (moment : ℕ) (u : Use) → Contains uses u
    → is_used uses moment u.wanted.node u.wanted.frame ≡ nat_le moment u.until
used_at uses each moment u at = by (nat_le moment u.until) refl
  where
    test : Use → Bool
    test v = (nat_le moment v.until && nat_eq v.wanted.node u.wanted.node) && int_eq v.wanted.frame u.wanted.frame

    by : (b : Bool) → nat_le moment u.until ≡ b → list_any test uses ≡ b
    by true is =
        let here : test u ≡ true = rw (is, nat_itself u.wanted.node) ((Decides-int_eq u.wanted.frame u.wanted.frame).1 refl) in
        list_any_at test uses at.0 u at.1 (ap test at.2 ∙ here)
    by false is = false_from_ne_true (list_any test uses) (λ any.
        let w = Any-from_list_any test uses any in
        let p = and_parts (nat_le moment w.1.until && nat_eq w.1.wanted.node u.wanted.node) (int_eq w.1.wanted.frame u.wanted.frame) w.4 in
        let q = and_parts (nat_le moment w.1.until) (nat_eq w.1.wanted.node u.wanted.node) p.0 in
        let there : Contains uses w.1 = (w.0, w.2, w.3) in
        let one : w.1 ≡ u = use_once uses each w.1 u there at (nat_same w.1.wanted.node u.wanted.node q.1) ((Decides-int_eq w.1.wanted.frame u.wanted.frame).0 p.1) in
        false≢true (sym is ∙ sym (ap (λ (v : Use). nat_le moment v.until) one) ∙ q.0))

-- ---- from moment to moment

pub from_due : (uses : List Use) (moment : ℕ) (w : Wanted) → Contains (due_at uses moment) w
    → (u : Use) × Contains uses u × (u.from ≡ moment) × (u.wanted ≡ w)
from_due [] moment w at = absurd (omega (arith, at.1))
from_due (u ∷ us) moment w at = by (λ a. from_due us moment w a) (nat_eq u.from moment) refl at
  where
    later : (v : Use) × Contains us v × (v.from ≡ moment) × (v.wanted ≡ w)
        → (v : Use) × Contains (u ∷ us) v × (v.from ≡ moment) × (v.wanted ≡ w)
    later r = let a = r.1 in let low = a.1 in (r.0, (suc a.0, omega (arith, low), a.2), r.2, r.3)

    Rest : Type 0
    Rest = Contains (due_at us moment) w → (v : Use) × Contains us v × (v.from ≡ moment) × (v.wanted ≡ w)

    first : Rest → nat_eq u.from moment ≡ true → Contains (u.wanted ∷ due_at us moment) w
        → (v : Use) × Contains (u ∷ us) v × (v.from ≡ moment) × (v.wanted ≡ w)
    first rest is (zero, low, e) = (u, (0, omega arith, refl), nat_same u.from moment is, e)
    first rest is (suc k, low, e) = later (rest (k, omega (arith, low), e))

    by : Rest → (b : Bool) → nat_eq u.from moment ≡ b → Contains (map (λ (v : Use). v.wanted) (cond b (u ∷ filter (λ (v : Use). nat_eq v.from moment) us) (filter (λ (v : Use). nat_eq v.from moment) us))) w
        → (v : Use) × Contains (u ∷ us) v × (v.from ≡ moment) × (v.wanted ≡ w)
    by rest true is a = first rest is a
    by rest false is a = later (rest a)

pub from_until : (uses : List Use) (moment : ℕ) (w : Wanted) → Contains (due_until uses moment) w
    → (u : Use) × Contains uses u × (u.from < moment) × (u.wanted ≡ w)
from_until uses zero w at = absurd (omega (arith, at.1))
from_until uses (suc m) w at =
    ⊎_elim (λ a. let r = from_until uses m w a in let low = r.2 in (r.0, r.1, omega (arith, low), r.3))
    (λ a. let r = from_due uses m w a in let low = r.2 in (r.0, r.1, omega (arith, low), r.3))
    (Contains-append_cases (due_until uses m) (due_at uses m) w at)

-- ---- sums

sum_both : {X : Type 0} (f g h : X → ℕ) → ((x : X) → f x + g x ≡ h x) → (xs : List X) → sum_by f xs + sum_by g xs ≡ sum_by h xs
sum_both f g h each [] = refl
sum_both f g h each (x ∷ xs) =
    let a = sum_by-cons f x xs in
    let b = sum_by-cons g x xs in
    let c = sum_by-cons h x xs in
    let d = each x in
    let e = sum_both f g h each xs in
    omega (arith, a, b, c, d, e)

sum_same : {X : Type 0} (f g : X → ℕ) (xs : List X) → ((x : X) → Contains xs x → f x ≡ g x) → sum_by f xs ≡ sum_by g xs
sum_same f g [] each = refl
sum_same f g (x ∷ xs) each =
    let a = sum_by-cons f x xs in
    let b = sum_by-cons g x xs in
    let c = each x (0, omega arith, refl) in
    let d = sum_same f g xs (λ y at. let low = at.1 in each y (suc at.0, omega (arith, low), at.2)) in
    omega (arith, a, b, c, d)

sum_none : {X : Type 0} (f : X → ℕ) → ((x : X) → f x ≡ 0) → (xs : List X) → 0 ≡ sum_by f xs
sum_none f each [] = refl
sum_none f each (x ∷ xs) =
    let a = sum_by-cons f x xs in
    let b = each x in
    let c = sum_none f each xs in
    omega (arith, a, b, c)

module _ (h : Wanted → ℕ) where
  -- of what is due at a moment, use by use
  sum_due : (us : List Use) (moment : ℕ) → sum_by h (due_at us moment) ≡ sum_by (λ (u : Use). cond (nat_eq u.from moment) (h u.wanted) 0) us
  sum_due [] moment = refl
  sum_due (u ∷ us) moment = by (sum_due us moment) (nat_eq u.from moment) refl
    where
      by : sum_by h (due_at us moment) ≡ sum_by (λ (v : Use). cond (nat_eq v.from moment) (h v.wanted) 0) us
          → (b : Bool) → nat_eq u.from moment ≡ b
          → sum_by h (map (λ (v : Use). v.wanted) (cond b (u ∷ filter (λ (v : Use). nat_eq v.from moment) us) (filter (λ (v : Use). nat_eq v.from moment) us)))
          ≡ sum_by (λ (v : Use). cond (nat_eq v.from moment) (h v.wanted) 0) (u ∷ us)
      by d true is =
          let a = sum_by-cons h u.wanted (due_at us moment) in
          let b = sum_by-cons (λ (v : Use). cond (nat_eq v.from moment) (h v.wanted) 0) u us in
          let c = ap (λ (t : Bool). cond t (h u.wanted) 0) is in
          omega (arith, a, b, c, d)
      by d false is =
          let b = sum_by-cons (λ (v : Use). cond (nat_eq v.from moment) (h v.wanted) 0) u us in
          let c = ap (λ (t : Bool). cond t (h u.wanted) 0) is in
          omega (arith, b, c, d)

  more : (a m x : ℕ) → cond (nat_lt a m) x 0 + cond (nat_eq a m) x 0 ≡ cond (nat_lt a (suc m)) x 0
  more a m x = grind (arith, nat_tests)

  none_yet : (a x : ℕ) → cond (nat_lt a 0) x 0 ≡ 0
  none_yet a x = grind (arith, nat_tests)

  pub sum_until : (uses : List Use) (moment : ℕ) → sum_by h (due_until uses moment) ≡ sum_by (λ (u : Use). cond (nat_lt u.from moment) (h u.wanted) 0) uses
  sum_until uses zero = sum_none (λ (u : Use). cond (nat_lt u.from 0) (h u.wanted) 0) (λ u. none_yet u.from (h u.wanted)) uses
  sum_until uses (suc m) =
      let a = sum_by-append h (due_until uses m) (due_at uses m) in
      let b = sum_until uses m in
      let c = sum_due uses m in
      let d = sum_both (λ (u : Use). cond (nat_lt u.from m) (h u.wanted) 0) (λ (u : Use). cond (nat_eq u.from m) (h u.wanted) 0) (λ (u : Use). cond (nat_lt u.from (suc m)) (h u.wanted) 0) (λ u. more u.from m (h u.wanted)) uses in
      omega (arith, a, b, c, d)

-- what a frame is counted as that is used at the moment or later, by the file that it was read from
abbrev part_of : List Use → ℕ → Files → Wanted → ℕ
part_of uses moment files w = cond (is_used uses moment w.node w.frame) (size_under files w.name) 0

part_same : (uses : List Use) (moment : ℕ) (files : Files) (side : ℕ) (w : Wanted) (s : SourceFrame) → IsFrameOf w s
    → IsPicture files side w.name s.image → used_part uses moment s ≡ part_of uses moment files w
part_same uses moment files side w s is p =
    ap (λ (n : ℕ). cond (is_used uses moment n s.frame) s.size 0) is.node
    ∙ ap (λ (f : ℤ). cond (is_used uses moment w.node f) s.size 0) is.frame
    ∙ ap (λ (n : ℕ). cond (is_used uses moment w.node w.frame) n 0) (is.size ∙ sym (picture_size files side w.name s.image p))

used_from : (uses : List Use) (moment : ℕ) (files : Files) (side : ℕ) (ws : List Wanted) (ss : List SourceFrame) → AreFramesOf ws ss
    → ArePictures files side ws ss → used_size uses moment ss ≡ sum_by (part_of uses moment files) ws
used_from uses moment files side [] [] are pictures = refl
used_from uses moment files side [] (s ∷ ss) are pictures = absurd are
used_from uses moment files side (w ∷ ws) [] are pictures = absurd are
used_from uses moment files side (w ∷ ws) (s ∷ ss) are pictures =
    let a = sum_by-cons (used_part uses moment) s ss in
    let b = sum_by-cons (part_of uses moment files) w ws in
    let c = part_same uses moment files side w s are.0 pictures.0 in
    let d = used_from uses moment files side ws ss are.1 pictures.1 in
    omega (arith, a, b, c, d)

cond_both : (b c : Bool) (x : ℕ) → cond b (cond c x 0) 0 ≡ cond (b && c) x 0
cond_both true c x = refl
cond_both false c x = refl

pub used_are_held : (uses : List Use) → AreOnce uses → (files : Files) (side moment : ℕ) (got : List SourceFrame)
    → AreFramesOf (due_until uses moment) got → ArePictures files side (due_until uses moment) got
    → used_size uses moment got ≡ held_bytes files uses moment
used_are_held uses each files side moment got are pictures =
    used_from uses moment files side (due_until uses moment) got are pictures
    ∙ sum_until (part_of uses moment files) uses moment
    ∙ sum_same (λ (u : Use). cond (nat_lt u.from moment) (part_of uses moment files u.wanted) 0)
    (λ (u : Use). cond (nat_lt u.from moment && nat_le moment u.until) (size_under files u.wanted.name) 0) uses (λ u at.
    ap (λ (c : Bool). cond (nat_lt u.from moment) (cond c (size_under files u.wanted.name) 0) 0) (used_at uses each moment u at)
    ∙ cond_both (nat_lt u.from moment) (nat_le moment u.until) (size_under files u.wanted.name))

-- ---- pairs, place by place

pairs_head : {X : Type 0} (R : X → X → Type 0) (x : X) (xs : List X) → AllPairs R (x ∷ xs) → (y : X) → Contains xs y → R x y
pairs_head {X} R x xs pairs y at = let low = at.1 in subst (λ (z : X). R x z) at.2 (pairs 0 (suc at.0) y (omega arith) (omega (arith, low)))

pairs_tail : {X : Type 0} (R : X → X → Type 0) (x : X) (xs : List X) → AllPairs R (x ∷ xs) → AllPairs R xs
pairs_tail R x xs pairs i j d low high = pairs (suc i) (suc j) d (omega (arith, low)) (omega (arith, high))

pairs_cons : {X : Type 0} (R : X → X → Type 0) (x : X) (xs : List X) → ((y : X) → Contains xs y → R x y) → AllPairs R xs → AllPairs R (x ∷ xs)
pairs_cons R x xs head tail zero zero d low high = absurd (omega (arith, low))
pairs_cons R x xs head tail zero (suc j) d low high = head (get_or xs j d) (Contains-get_or xs j d (omega (arith, high)))
pairs_cons R x xs head tail (suc i) zero d low high = absurd (omega (arith, low))
pairs_cons R x xs head tail (suc i) (suc j) d low high = tail i j d (omega (arith, low)) (omega (arith, high))

pairs_due : (us : List Use) (moment : ℕ) → AllPairs (λ u v. IsApart u.wanted v.wanted) us → AllPairs IsApart (due_at us moment)
pairs_due [] moment pairs i j d low high = absurd (omega (arith, high))
pairs_due (u ∷ us) moment pairs i j d low high =
    by (pairs_due us moment (pairs_tail (λ u v. IsApart u.wanted v.wanted) u us pairs)) (nat_eq u.from moment) i j d low high
  where
    head : (w : Wanted) → Contains (due_at us moment) w → IsApart u.wanted w
    head w at =
        let r = from_due us moment w at in
        subst (λ (x : Wanted). IsApart u.wanted x) r.3 (pairs_head (λ u v. IsApart u.wanted v.wanted) u us pairs r.0 r.1)

    by : AllPairs IsApart (due_at us moment) → (b : Bool) → AllPairs IsApart (map (λ (v : Use). v.wanted) (cond b (u ∷ filter (λ (v : Use). nat_eq v.from moment) us) (filter (λ (v : Use). nat_eq v.from moment) us)))
    by later true = pairs_cons IsApart u.wanted (due_at us moment) head later
    by later false = later

zip_from : {A B : Type 0} (R : A → B → Type 0) (xs : List A) (ys : List B) → AllZip R xs ys → (y : B) → Contains ys y → (x : A) × Contains xs x × R x y
zip_from R [] [] z y at = absurd (omega (arith, at.1))
zip_from R [] (b ∷ ys) z y at = absurd z
zip_from R (a ∷ xs) [] z y at = absurd z
zip_from {A} {B} R (a ∷ xs) (b ∷ ys) z y (zero, low, e) = (a, (0, omega arith, refl), subst (λ (v : B). R a v) e z.0)
zip_from R (a ∷ xs) (b ∷ ys) z y (suc k, low, e) =
    let r = zip_from R xs ys z.1 y (k, omega (arith, low), e) in
    let at = r.1 in
    let under = at.1 in
    (r.0, (suc at.0, omega (arith, under), at.2), r.2)

pub zip_to : {A B : Type 0} (R : A → B → Type 0) (xs : List A) (ys : List B) → AllZip R xs ys → (x : A) → Contains xs x → (y : B) × Contains ys y × R x y
zip_to R [] [] z x at = absurd (omega (arith, at.1))
zip_to R [] (b ∷ ys) z x at = absurd z
zip_to R (a ∷ xs) [] z x at = absurd z
zip_to {A} {B} R (a ∷ xs) (b ∷ ys) z x (zero, low, e) = (b, (0, omega arith, refl), subst (λ (v : A). R v b) e z.0)
zip_to R (a ∷ xs) (b ∷ ys) z x (suc k, low, e) =
    let r = zip_to R xs ys z.1 x (k, omega (arith, low), e) in
    let at = r.1 in
    let under = at.1 in
    (r.0, (suc at.0, omega (arith, under), at.2), r.2)

-- frames of what stands apart stand apart
frames_apart : (ws : List Wanted) (ss : List SourceFrame) → AllPairs IsApart ws → AreFramesOf ws ss
    → AllPairs (λ s t. s.node ≡ t.node → s.frame ≡ t.frame → ⊥) ss
frames_apart [] [] pairs are i j d low high = absurd (omega (arith, high))
frames_apart [] (s ∷ ss) pairs are i j d low high = absurd are
frames_apart (w ∷ ws) [] pairs are i j d low high = absurd are
frames_apart (w ∷ ws) (s ∷ ss) pairs are i j d low high =
    pairs_cons (λ s t. s.node ≡ t.node → s.frame ≡ t.frame → ⊥) s ss (λ t at node frame.
    let r = zip_from IsFrameOf ws ss are.1 t at in
    pairs_head IsApart w ws pairs r.0 r.1 (sym are.0.node ∙ node ∙ r.2.node) (sym are.0.frame ∙ frame ∙ r.2.frame))
    (frames_apart ws ss (pairs_tail IsApart w ws pairs) are.1) i j d low high

-- ---- what is due is new

pub due_is_new : (uses : List Use) → AreOnce uses → (moment : ℕ) (got came : List SourceFrame) → AreFramesOf (due_until uses moment) got
    → AreFramesOf (due_at uses moment) came → IsNew (frames_in got) came
due_is_new uses each moment got came are come =
    record {
      apart = frames_apart (due_at uses moment) came (pairs_due uses moment each.apart) come;
      none = λ k d low. free (get_or came k d) (Contains-get_or came k d low);
    }
  where
    free : (s : SourceFrame) → Contains came s → frames_in got s.node s.frame ≡ None
    free s at = by (frames_in got s.node s.frame) refl
      where
        by : (o : Option Stored) → frames_in got s.node s.frame ≡ o → o ≡ None
        by None is = refl
        by (Some image) is =
            let had = frames_from got s.node s.frame image is in
            let before = zip_from IsFrameOf (due_until uses moment) got are had.0 had.1 in
            let u = from_until uses moment before.0 before.1 in
            let now = zip_from IsFrameOf (due_at uses moment) came come s at in
            let v = from_due uses moment now.0 now.1 in
            let node : u.0.wanted.node ≡ v.0.wanted.node =
            ap (λ (w : Wanted). w.node) u.3 ∙ sym before.2.node ∙ had.2 ∙ now.2.node ∙ sym (ap (λ (w : Wanted). w.node) v.3) in
            let frame : u.0.wanted.frame ≡ v.0.wanted.frame =
            ap (λ (w : Wanted). w.frame) u.3 ∙ sym before.2.frame ∙ had.3 ∙ now.2.frame ∙ sym (ap (λ (w : Wanted). w.frame) v.3) in
            let one = use_once uses each u.0 v.0 u.1 v.1 node frame in
            let from : u.0.from ≡ v.0.from = ap (λ (w : Use). w.from) one in
            let low = u.2 in
            let at_moment = v.2 in
            absurd (omega (arith, from, low, at_moment))

-- ---- what is held is used

-- what is used at a moment or later is used at an earlier one or later
used_earlier : (uses : List Use) (early late n : ℕ) (f : ℤ) → early ≤ late → is_used uses late n f ≡ true → is_used uses early n f ≡ true
used_earlier uses early late n f low any =
    let test : ℕ → Use → Bool = λ m v. (nat_le m v.until && nat_eq v.wanted.node n) && int_eq v.wanted.frame f in
    let w = Any-from_list_any (test late) uses any in
    let p = and_parts (nat_le late w.1.until && nat_eq w.1.wanted.node n) (int_eq w.1.wanted.frame f) w.4 in
    let q = and_parts (nat_le late w.1.until) (nat_eq w.1.wanted.node n) p.0 in
    let until : nat_le early w.1.until ≡ true = earlier early late w.1.until low q.0 in
    let here : test early w.1 ≡ true = rw (until, q.1, p.1) refl in
    list_any_at (test early) uses w.0 w.1 w.2 (ap (test early) w.3 ∙ here)
  where
    earlier : (a b c : ℕ) → a ≤ b → nat_le b c ≡ true → nat_le a c ≡ true
    earlier a b c low h = grind (arith, nat_tests)

module _ (uses : List Use) (early late : ℕ) (low : early ≤ late) where
  part_none : (s : SourceFrame) → is_used_frame uses early s ≡ false → is_used_frame uses late s ≡ false
  part_none s not = false_from_ne_true (is_used_frame uses late s) (λ is. false≢true (sym not ∙ used_earlier uses early late s.node s.frame low is))

  pub size-filter : (ss : List SourceFrame) → used_size uses late (filter (is_used_frame uses early) ss) ≡ used_size uses late ss
  size-filter [] = refl
  size-filter (s ∷ ss) = by (size-filter ss) (is_used_frame uses early s) refl
    where
      by : used_size uses late (filter (is_used_frame uses early) ss) ≡ used_size uses late ss
          → (b : Bool) → is_used_frame uses early s ≡ b
          → used_size uses late (cond b (s ∷ filter (is_used_frame uses early) ss) (filter (is_used_frame uses early) ss)) ≡ used_size uses late (s ∷ ss)
      by c true is =
          let a = sum_by-cons (used_part uses late) s (filter (is_used_frame uses early) ss) in
          let b = sum_by-cons (used_part uses late) s ss in
          omega (arith, a, b, c)
      by c false is =
          let b = sum_by-cons (used_part uses late) s ss in
          let d = ap (λ (t : Bool). cond t s.size 0) (part_none s is) in
          omega (arith, b, c, d)

  pub filter-filter : (ss : List SourceFrame) → filter (is_used_frame uses late) (filter (is_used_frame uses early) ss) ≡ filter (is_used_frame uses late) ss
  filter-filter [] = refl
  filter-filter (s ∷ ss) = by (filter-filter ss) (is_used_frame uses early s) refl
    where
      rest : List SourceFrame
      rest = filter (is_used_frame uses late) ss

      by : filter (is_used_frame uses late) (filter (is_used_frame uses early) ss) ≡ rest
          → (b : Bool) → is_used_frame uses early s ≡ b
          → filter (is_used_frame uses late) (cond b (s ∷ filter (is_used_frame uses early) ss) (filter (is_used_frame uses early) ss))
          ≡ cond (is_used_frame uses late s) (s ∷ rest) rest
      by left true is = ap (λ (ts : List SourceFrame). cond (is_used_frame uses late s) (s ∷ ts) ts) left
      by left false is = left ∙ sym (ap (λ (t : Bool). cond t (s ∷ rest) rest) (part_none s is))

pub held_are_used : (uses : List Use) (moment : ℕ) (store : Store) → HasRead uses moment store
    → used_size uses moment (held_frames store) ≡ used_size uses moment (got_frames store)
held_are_used uses moment store read =
    ap (used_size uses moment) read.held ∙ size-filter uses (moment - 1) moment (omega arith) (got_frames store)

-- ---- the store goes on

filter_all : {X : Type 0} (p : X → Bool) (xs : List X) → ((x : X) → Contains xs x → p x ≡ true) → filter p xs ≡ xs
filter_all p [] each = refl
filter_all {X} p (x ∷ xs) each =
    ap (λ (t : Bool). cond t (x ∷ filter p xs) (filter p xs)) (each x (0, omega arith, refl))
    ∙ ap (λ (ys : List X). x ∷ ys) (filter_all p xs (λ y at. let low = at.1 in each y (suc at.0, omega (arith, low), at.2)))

module _ (uses : List Use) (each : AreOnce uses) (moment : ℕ) where
  -- what is due at a moment is used then
  due_is_used : (came : List SourceFrame) → AreFramesOf (due_at uses moment) came → (s : SourceFrame) → Contains came s → is_used_frame uses moment s ≡ true
  due_is_used came are s at =
      let now = zip_from IsFrameOf (due_at uses moment) came are s at in
      let v = from_due uses moment now.0 now.1 in
      let order = All-contains (λ (u : Use). u.from ≤ u.until) uses v.0 each.order v.1 in
      let from = v.2 in
      let here : nat_le moment v.0.until ≡ true = under moment v.0.until (omega (arith, order, from)) in
      let node : s.node ≡ v.0.wanted.node = now.2.node ∙ sym (ap (λ (w : Wanted). w.node) v.3) in
      let frame : s.frame ≡ v.0.wanted.frame = now.2.frame ∙ sym (ap (λ (w : Wanted). w.frame) v.3) in
      ap (λ (n : ℕ). is_used uses moment n s.frame) node ∙ ap (λ (f : ℤ). is_used uses moment v.0.wanted.node f) frame
      ∙ used_at uses each moment v.0 v.1 ∙ here
    where
      under : (a b : ℕ) → a ≤ b → nat_le a b ≡ true
      under a b low = grind (arith, nat_tests)

  pub goes_on : (came : List SourceFrame) (old new : Store) → HasTaken uses moment came old new → HasRead uses moment old → HasRead uses (moment + 1) new
  goes_on came old new taken read =
      let still = is_used_frame uses moment in
      let was : filter still (held_frames old) ≡ filter still (got_frames old) =
      ap (filter still) read.held ∙ filter-filter uses (moment - 1) moment (omega arith) (got_frames old) in
      let all : held_frames new ≡ filter still (got_frames new) =
      taken.held ∙ ap (λ (ss : List SourceFrame). ss ++ came) was
      ∙ ap (λ (ss : List SourceFrame). filter still (got_frames old) ++ ss) (sym (filter_all still came (due_is_used came taken.due)))
      ∙ sym (filter-append still (got_frames old) came) ∙ ap (filter still) (sym taken.got) in
      let same : moment ≡ moment + 1 - 1 = omega arith in
      let next : suc moment ≡ moment + 1 = omega arith in
      record {
        got = subst (λ (ss : List SourceFrame). AreFramesOf (due_until uses (moment + 1)) ss) (sym taken.got)
            (subst (λ (m : ℕ). AreFramesOf (due_until uses m) (got_frames old ++ came)) next
            (zip_append IsFrameOf (due_until uses moment) (due_at uses moment) (got_frames old) came read.got taken.due));
        held = subst (λ (m : ℕ). held_frames new ≡ filter (is_used_frame uses m) (got_frames new)) same all;
      }

pub begins : (uses : List Use) (store : Store) → held_frames store ≡ [] → got_frames store ≡ [] → HasRead uses 0 store
begins uses store held got =
    record {
      got = subst (λ (ss : List SourceFrame). AreFramesOf [] ss) (sym got) tt;
      held = held ∙ ap (filter (is_used_frame uses (0 - 1))) (sym got);
    }

part_le : (b c : Bool) (x : ℕ) → (b ≡ true → c ≡ true) → cond b x 0 ≤ cond c x 0
part_le true c x h = let e = ap (λ (t : Bool). cond t x 0) (h refl) in omega (arith, e)
part_le false c x h = omega arith

part_most : (b : Bool) (x : ℕ) → cond b x 0 ≤ x
part_most true x = omega arith
part_most false x = omega arith

pub stays_small : (uses : List Use) (moment : ℕ) (came : List SourceFrame) (old new : Store) → HasTaken uses moment came old new
    → used_size uses (moment + 1) (held_frames new) ≤ used_size uses moment (held_frames old) + size_of_all came
stays_small uses moment came old new taken =
    let next = used_part uses (moment + 1) in
    let all : used_size uses (moment + 1) (held_frames new)
    ≡ used_size uses (moment + 1) (filter (is_used_frame uses moment) (held_frames old) ++ came) = ap (sum_by next) taken.held in
    let parts = sum_by-append next (filter (is_used_frame uses moment) (held_frames old)) came in
    let left = size-filter uses moment (moment + 1) (omega arith) (held_frames old) in
    let fewer : sum_by next (held_frames old) ≤ sum_by (used_part uses moment) (held_frames old) =
    sum_by-le-sum_by next (used_part uses moment) (held_frames old) (λ s.
    part_le (is_used_frame uses (moment + 1) s) (is_used_frame uses moment s) s.size (used_earlier uses moment (moment + 1) s.node s.frame (omega arith))) in
    let most : sum_by next came ≤ sum_by (λ (s : SourceFrame). s.size) came =
    sum_by-le-sum_by next (λ (s : SourceFrame). s.size) came (λ s. part_most (is_used_frame uses (moment + 1) s) s.size) in
    omega (arith, all, parts, left, fewer, most)

-- ---- what is used is held

to_due : (us : List Use) (u : Use) → Contains us u → Contains (due_at us u.from) u.wanted
to_due [] u at = absurd (omega (arith, at.1))
to_due (v ∷ us) u (zero, low, e) =
    let same : nat_eq v.from u.from ≡ true = ap (λ (x : Use). nat_eq x.from u.from) e ∙ nat_itself u.from in
    subst (λ (b : Bool). Contains (map (λ (x : Use). x.wanted) (cond b (v ∷ filter (λ (x : Use). nat_eq x.from u.from) us) (filter (λ (x : Use). nat_eq x.from u.from) us))) u.wanted)
    (sym same) (0, omega arith, ap (λ (x : Use). x.wanted) e)
to_due (v ∷ us) u (suc k, low, e) = by (to_due us u (k, omega (arith, low), e)) (nat_eq v.from u.from)
  where
    by : Contains (due_at us u.from) u.wanted → (b : Bool) → Contains (map (λ (x : Use). x.wanted) (cond b (v ∷ filter (λ (x : Use). nat_eq x.from u.from) us) (filter (λ (x : Use). nat_eq x.from u.from) us))) u.wanted
    by rest true = let under = rest.1 in (suc rest.0, omega (arith, under), rest.2)
    by rest false = rest

pub to_until : (uses : List Use) (u : Use) → Contains uses u → (moment : ℕ) → u.from < moment → Contains (due_until uses moment) u.wanted
to_until uses u at zero low = absurd (omega (arith, low))
to_until uses u at (suc m) low =
    ⊎_elim (λ before. Contains-append_left (due_until uses m) (due_at uses m) u.wanted (to_until uses u at m before))
    (λ last.
    let same : u.from ≡ m = omega (arith, low, last) in
    Contains-append_right (due_until uses m) (due_at uses m) u.wanted (subst (λ (k : ℕ). Contains (due_at uses k) u.wanted) same (to_due uses u at)))
    (cases_lt u.from m)

pub some_in : (ss : List SourceFrame) (s : SourceFrame) → Contains ss s → IsSome (frames_in ss s.node s.frame)
some_in [] s at = absurd (omega (arith, at.1))
some_in (t ∷ ss) s (zero, low, e) =
    let here = of_itself s.node s.frame t (ap (λ (x : SourceFrame). x.node) e) (ap (λ (x : SourceFrame). x.frame) e) in
    rw here refl
some_in (t ∷ ss) s (suc k, low, e) = by (some_in ss s (k, omega (arith, low), e)) (is_of s.node s.frame t)
  where
    by : IsSome (frames_in ss s.node s.frame) → (b : Bool) → IsSome (cond b (Some t.image) (frames_in ss s.node s.frame))
    by rest true = refl
    by rest false = rest

pub holds_used : (uses : List Use) → AreOnce uses → (moment : ℕ) (store : Store) → HasRead uses (moment + 1) store
    → (u : Use) → Contains uses u → u.from ≤ moment → moment ≤ u.until
    → IsSome (held store u.wanted.node u.wanted.frame)
    × (held store u.wanted.node u.wanted.frame ≡ fetched store u.wanted.node u.wanted.frame)
holds_used uses each moment store read u at from until =
    (subst (λ (o : Option Stored). IsSome o) (sym same) there, same)
  where
    n : ℕ
    n = u.wanted.node

    f : ℤ
    f = u.wanted.frame

    under : (a b : ℕ) → a ≤ b → nat_le a b ≡ true
    under a b low = grind (arith, nat_tests)

    same : held store n f ≡ fetched store n f
    same =
        let back : moment + 1 - 1 ≡ moment = omega arith in
        ap (λ (ss : List SourceFrame). frames_in ss n f) (subst (λ (m : ℕ). held_frames store ≡ filter (is_used_frame uses m) (got_frames store)) back read.held)
        ∙ look-filter uses moment (got_frames store) n f
        ∙ ap (λ (b : Bool). cond b (fetched store n f) None) (used_at uses each moment u at ∙ under moment u.until until)

    there : IsSome (fetched store n f)
    there =
        let r = zip_to IsFrameOf (due_until uses (moment + 1)) (got_frames store) read.got u.wanted (to_until uses u at (moment + 1) (omega (arith, from))) in
        subst (λ (k : ℕ). IsSome (fetched store k f)) r.2.node
        (subst (λ (t : ℤ). IsSome (fetched store r.0.node t)) r.2.frame (some_in (got_frames store) r.0 r.1))
