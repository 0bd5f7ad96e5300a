-- Which image of a list is looked up.
use Rattle.std.proofs.Common.{◌≡◌, ℕ, zero, suc, ℤ, ◌+◌, ◌<◌, drop, get_or, ◌&&◌, nat_eq, List, [], ◌∷◌, ◌++◌, filter, length, sum_by, Bool, true, false, cond, Option, Some, None, AllPairs, Contains, refl, sym, ap, ◌∙◌, subst, arith}
use Rattle.std.specs.Option.{option_or}
use Rattle.std.specs.Ordering.{int_eq}
use Rattle.std.proofs.lemmas.Bool.{and_parts, false_from_ne_true}
use Rattle.std.proofs.lemmas.Bool.Decides.{nat_tests, Decides-int_eq}
use Rattle.std.proofs.lemmas.List.{drop_more}
use Rattle.std.proofs.lemmas.List.Sums.{sum_by-cons}
use Rattle.std.proofs.lemmas.Option.{none-some, same_Some}
use Rattle.fx_image.specs.Stored.{Stored}
use Rattle.fx_outside.specs.Outside.{Files}
use Rattle.fx_seq.specs.declared.source.SourceFrame.{SourceFrame}
use Rattle.fx_seq.specs.declared.used.Use.{Use}
use Rattle.fx_seq.specs.declared.wanted.Wanted.{Wanted}
use Rattle.fx_seq.specs.Lists.{AreFramesOf, ArePictures, IsNew, frames_in, is_of, is_used_frame}
use Rattle.fx_seq.specs.Moments.{is_used}
use Rattle.fx_seq.specs.Filling.{IsApart}
use Rattle.fx_seq.specs.Frames.{AreAmong, AreSound, Frames, HoldsOnly, HoldsPictures, IsPicture, IsSourceFrame}

pub nat_same : (a b : ℕ) → nat_eq a b ≡ true → a ≡ b
nat_same a b e = grind (arith, nat_tests)

pub nat_itself : (a : ℕ) → nat_eq a a ≡ true
nat_itself a = grind (arith, nat_tests)

pub of_same : (n : ℕ) (f : ℤ) (e : SourceFrame) → is_of n f e ≡ true → (e.node ≡ n) × (e.frame ≡ f)
of_same n f e h =
    let p = and_parts (nat_eq e.node n) (int_eq e.frame f) h in
    (nat_same e.node n p.0, (Decides-int_eq e.frame f).0 p.1)

pub of_itself : (n : ℕ) (f : ℤ) (e : SourceFrame) → e.node ≡ n → e.frame ≡ f → is_of n f e ≡ true
of_itself n f e node frame =
    subst (λ (k : ℕ). nat_eq e.node k && int_eq e.frame f ≡ true) node
    (rw (nat_itself e.node) ((Decides-int_eq e.frame f).1 frame))

-- ---- lists one behind the other

either : (b : Bool) (x : Stored) (o p q : Option Stored) → o ≡ option_or p q → cond b (Some x) o ≡ option_or (cond b (Some x) p) q
either true x o p q e = refl
either false x o p q e = e

pub frames-append : (es ds : List SourceFrame) (n : ℕ) (f : ℤ) → frames_in (es ++ ds) n f ≡ option_or (frames_in es n f) (frames_in ds n f)
frames-append [] ds n f = refl
frames-append (e ∷ es) ds n f = either (is_of n f e) e.image (frames_in (es ++ ds) n f) (frames_in es n f) (frames_in ds n f) (frames-append es ds n f)

-- ---- where an image comes from

pub frames_from : (ss : List SourceFrame) (n : ℕ) (f : ℤ) (image : Stored) → frames_in ss n f ≡ Some image
    → (s : SourceFrame) × Contains ss s × (s.node ≡ n) × (s.frame ≡ f) × (s.image ≡ image)
frames_from [] n f image h = absurd (none-some image h)
frames_from (s ∷ ss) n f image h = by (is_of n f s) refl h (λ k. later (frames_from ss n f image k))
  where
    later : (d : SourceFrame) × Contains ss d × (d.node ≡ n) × (d.frame ≡ f) × (d.image ≡ image)
        → (d : SourceFrame) × Contains (s ∷ ss) d × (d.node ≡ n) × (d.frame ≡ f) × (d.image ≡ image)
    later w = let at = w.1 in let low = at.1 in (w.0, (suc at.0, omega (arith, low), at.2), w.2, w.3, w.4)

    by : (b : Bool) → is_of n f s ≡ b → cond b (Some s.image) (frames_in ss n f) ≡ Some image
        → (frames_in ss n f ≡ Some image
        → (d : SourceFrame) × Contains (s ∷ ss) d × (d.node ≡ n) × (d.frame ≡ f) × (d.image ≡ image))
        → (d : SourceFrame) × Contains (s ∷ ss) d × (d.node ≡ n) × (d.frame ≡ f) × (d.image ≡ image)
    by true is k rest = let p = of_same n f s is in (s, (0, omega arith, refl), p.0, p.1, same_Some s.image image k)
    by false is k rest = rest k

-- ---- those that are used

none_left : (b : Bool) → ◌≡◌ {A = Option Stored} None (cond b None None)
none_left true = refl
none_left false = refl

pub look-filter : (uses : List Use) (moment : ℕ) (frames : List SourceFrame) (n : ℕ) (f : ℤ)
    → frames_in (filter (is_used_frame uses moment) frames) n f ≡ cond (is_used uses moment n f) (frames_in frames n f) None
look-filter uses moment [] n f = none_left (is_used uses moment n f)
look-filter uses moment (s ∷ ss) n f = by (look-filter uses moment ss n f) (is_used_frame uses moment s) refl (is_of n f s) refl
  where
    left : List SourceFrame
    left = filter (is_used_frame uses moment) ss

    used : Bool
    used = is_used uses moment n f

    -- a frame of this node and frame is used where the frame is
    same_used : is_of n f s ≡ true → is_used_frame uses moment s ≡ used
    same_used h =
        let p = of_same n f s h in
        ap (λ (k : ℕ). is_used uses moment k s.frame) p.0 ∙ ap (λ (t : ℤ). is_used uses moment n t) p.1

    by : frames_in left n f ≡ cond used (frames_in ss n f) None → (b : Bool) → is_used_frame uses moment s ≡ b → (d : Bool) → is_of n f s ≡ d
        → frames_in (cond b (s ∷ left) left) n f ≡ cond used (cond (is_of n f s) (Some s.image) (frames_in ss n f)) None
    by rest true is true of =
        let u : used ≡ true = sym (same_used of) ∙ is in
        ap (λ (d : Bool). cond d (Some s.image) (frames_in left n f)) of
        ∙ sym (ap (λ (b : Bool). cond b (cond (is_of n f s) (Some s.image) (frames_in ss n f)) None) u
        ∙ ap (λ (d : Bool). cond d (Some s.image) (frames_in ss n f)) of)
    by rest false is true of =
        let u : used ≡ false = sym (same_used of) ∙ is in
        rest ∙ ap (λ (b : Bool). cond b (frames_in ss n f) None) u
        ∙ sym (ap (λ (b : Bool). cond b (cond (is_of n f s) (Some s.image) (frames_in ss n f)) None) u)
    by rest true is false of =
        ap (λ (d : Bool). cond d (Some s.image) (frames_in left n f)) of ∙ rest
        ∙ ap (λ (d : Bool). cond used (cond d (Some s.image) (frames_in ss n f)) None) (sym of)
    by rest false is false of =
        rest ∙ ap (λ (d : Bool). cond used (cond d (Some s.image) (frames_in ss n f)) None) (sym of)

-- ---- the facts that a store keeps

pub frames_sound : (frames : List SourceFrame) → AreSound (frames_in frames)
frames_sound frames n f image h =
    let w = frames_from frames n f image h in subst (λ (i : Stored). IsSourceFrame i) w.4 w.0.sound

pub sound_append : (es ds : List SourceFrame) → AreSound (frames_in es) → AreSound (frames_in ds) → AreSound (frames_in (es ++ ds))
sound_append es ds p q n f image h = by (frames_in es n f) refl (sym (frames-append es ds n f) ∙ h)
  where
    by : (o : Option Stored) → frames_in es n f ≡ o → option_or o (frames_in ds n f) ≡ Some image → IsSourceFrame image
    by None is k = q n f image k
    by (Some i) is k = p n f image (is ∙ k)

pub sound_none : (frames : Frames) → ((n : ℕ) (f : ℤ) → frames n f ≡ None) → AreSound frames
sound_none frames none n f image h = absurd (none-some image (sym (none n f) ∙ h))

-- those that are left and those that came are among all that ever came
pub among_more : (uses : List Use) (moment : ℕ) (old came : List SourceFrame) (got : List SourceFrame)
    → AreAmong (frames_in old) (frames_in got) → IsNew (frames_in got) came
    → AreAmong (frames_in (filter (is_used_frame uses moment) old ++ came)) (frames_in (got ++ came))
among_more uses moment old came got among new n f image h =
    frames-append got (came) n f ∙ by (is_used uses moment n f) (frames_in old n f) refl
    (sym (split ∙ ap (λ (o : Option Stored). option_or o (frames_in came n f)) (look-filter uses moment old n f)) ∙ h)
  where
    left : List SourceFrame
    left = filter (is_used_frame uses moment) old

    split : frames_in (left ++ came) n f ≡ option_or (frames_in left n f) (frames_in came n f)
    split = frames-append left came n f

    first : (o : Option Stored) → frames_in got n f ≡ o → o ≡ Some image → option_or (frames_in got n f) (frames_in came n f) ≡ Some image
    first o is e = ap (λ (p : Option Stored). option_or p (frames_in came n f)) (is ∙ e)

    -- one that came had no image before
    second : frames_in came n f ≡ Some image → option_or (frames_in got n f) (frames_in came n f) ≡ Some image
    second e =
        let w = frames_from came n f image e in
        let at = w.1 in
        let none = subst (λ (s : SourceFrame). frames_in got s.node s.frame ≡ None) at.2 (new.none at.0 w.0 at.1) in
        let here : frames_in got n f ≡ None =
        ap (λ (k : ℕ). frames_in got k f) (sym w.2) ∙ ap (λ (t : ℤ). frames_in got w.0.node t) (sym w.3) ∙ none in
        ap (λ (p : Option Stored). option_or p (frames_in came n f)) here ∙ e

    by : (b : Bool) (o : Option Stored) → frames_in old n f ≡ o
        → option_or (cond b o None) (frames_in came n f) ≡ Some image
        → option_or (frames_in got n f) (frames_in came n f) ≡ Some image
    by true None is e = second e
    by true (Some i) is e = first (Some i) (among n f i is) e
    by false o is e = second e

-- ---- what is held once wanted frames were read

pairs_head : (w : Wanted) (ws : List Wanted) → AllPairs IsApart (w ∷ ws) → (v : Wanted) → Contains ws v → IsApart w v
pairs_head w ws apart v at = let low = at.1 in subst (λ (u : Wanted). IsApart w u) at.2 (apart 0 (suc at.0) v (omega arith) (omega (arith, low)))

pairs_tail : (w : Wanted) (ws : List Wanted) → AllPairs IsApart (w ∷ ws) → AllPairs IsApart ws
pairs_tail w ws apart i j d low high = apart (suc i) (suc j) d (omega (arith, low)) (omega (arith, high))

pub pictures_held : (files : Files) (side : ℕ) (ws : List Wanted) (ss : List SourceFrame) → AllPairs IsApart ws
    → AreFramesOf ws ss → ArePictures files side ws ss → HoldsPictures files side ws (frames_in ss)
pictures_held files side [] ss apart are pictures w at = absurd (omega (arith, at.1))
pictures_held files side (v ∷ ws) [] apart are pictures w at = absurd are
pictures_held files side (v ∷ ws) (s ∷ ss) apart are pictures w (zero, low, e) =
    let here = of_itself w.node w.frame s (are.0.node ∙ ap (λ (u : Wanted). u.node) e) (are.0.frame ∙ ap (λ (u : Wanted). u.frame) e) in
    (s.image, rw here refl, subst (λ (u : Wanted). IsPicture files side u.name s.image) e pictures.0)
pictures_held files side (v ∷ ws) (s ∷ ss) apart are pictures w (suc k, low, e) =
    let at : Contains ws w = (k, omega (arith, low), e) in
    let r = pictures_held files side ws ss (pairs_tail v ws apart) are.1 pictures.1 w at in
    let other = false_from_ne_true (is_of w.node w.frame s) (λ t.
    let p = of_same w.node w.frame s t in
    pairs_head v ws apart w at (sym are.0.node ∙ p.0) (sym are.0.frame ∙ p.1)) in
    (r.0, rw other r.1, r.2)

pub only_held : (ws : List Wanted) (ss : List SourceFrame) → AreFramesOf ws ss → HoldsOnly ws (frames_in ss)
only_held [] [] are n f other = refl
only_held [] (s ∷ ss) are n f other = absurd are
only_held (v ∷ ws) [] are n f other = refl
only_held (v ∷ ws) (s ∷ ss) are n f other =
    let apart = false_from_ne_true (is_of n f s) (λ t.
    let p = of_same n f s t in
    other v (0, omega arith, refl) (sym are.0.node ∙ p.0) (sym are.0.frame ∙ p.1)) in
    rw apart (only_held ws ss are.1 n f (λ w at. let low = at.1 in other w (suc at.0, omega (arith, low), at.2)))

-- ---- one after the other

module _ (ss : List SourceFrame) (i : ℕ) (s : SourceFrame) (n : ℕ) (f : ℤ) (low : i < length ss) (is : s ≡ get_or ss i s) where
  split : drop i ss ≡ s ∷ drop (i + 1) ss
  split = drop_more ss i s low ∙ ap (λ (v : SourceFrame). v ∷ drop (i + 1) ss) (sym is)

  pub image_here : is_of n f s ≡ true → frames_in (drop i ss) n f ≡ Some s.image
  image_here h =
      ap (λ (xs : List SourceFrame). frames_in xs n f) split
      ∙ ap (λ (b : Bool). cond b (Some s.image) (frames_in (drop (i + 1) ss) n f)) h

  pub image_later : is_of n f s ≡ false → frames_in (drop i ss) n f ≡ frames_in (drop (i + 1) ss) n f
  image_later h =
      ap (λ (xs : List SourceFrame). frames_in xs n f) split
      ∙ ap (λ (b : Bool). cond b (Some s.image) (frames_in (drop (i + 1) ss) n f)) h

-- the sum of what is left, and of the first of it
pub sum_split : {X : Type 0} (h : X → ℕ) (xs : List X) (i : ℕ) (x : X) → i < length xs → x ≡ get_or xs i x
    → sum_by h (drop i xs) ≡ h x + sum_by h (drop (i + 1) xs)
sum_split {X} h xs i x low is =
    ap (λ (ys : List X). sum_by h ys) (drop_more xs i x low ∙ ap (λ (v : X). v ∷ drop (i + 1) xs) (sym is))
    ∙ sum_by-cons h x (drop (i + 1) xs)
