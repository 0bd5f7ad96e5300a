-- Texts with and without slashes, and what stands under a name.
use Rattle.std.proofs.Common.{◌≡◌, refl, ap, sym, ◌∙◌, ℕ, nat_eq, Bool, true, false, not, ◌||◌, List, [], ◌∷◌, ◌++◌, Option, Some, None, is_some, option_map, bytes_eq, if◌then◌else◌, find}
use Rattle.std.proofs.lemmas.Bool.{false≢true, true≢false}
use Rattle.std.proofs.lemmas.Slice.Eq.{bytes_eq-Decides}
use Rattle.std.specs.Option.{option_or}
use Rattle.fx_group.specs.Names.{look, is_among, has_slash}

-- ---- equal texts

pub same_text : (a b : List ℕ) → bytes_eq a b ≡ true → a ≡ b
same_text a b e = (bytes_eq-Decides a b).0 e

pub text_same : (a b : List ℕ) → a ≡ b → bytes_eq a b ≡ true
text_same a b e = (bytes_eq-Decides a b).1 e

pub other_text : (a b : List ℕ) → (a ≡ b → ⊥) → bytes_eq a b ≡ false
other_text a b unlike = go (bytes_eq a b) refl
  where
    go : (r : Bool) → bytes_eq a b ≡ r → r ≡ false
    go true e = absurd (unlike (same_text a b e))
    go false e = refl

pub text_other : (a b : List ℕ) → bytes_eq a b ≡ false → a ≡ b → ⊥
text_other a b e same = true≢false (sym (text_same a b same) ∙ e)

abbrev rest : List ℕ → List ℕ
rest [] = []
rest (x ∷ xs) = xs

abbrev first : List ℕ → ℕ
first [] = 0
first (x ∷ xs) = x

pub cancel : (p a b : List ℕ) → p ++ a ≡ p ++ b → a ≡ b
cancel [] a b e = e
cancel (x ∷ p) a b e = cancel p a b (ap rest e)

pub prefixed_eq : (p a b : List ℕ) → bytes_eq (p ++ a) (p ++ b) ≡ bytes_eq a b
prefixed_eq p a b = go (bytes_eq a b) refl
  where
    go : (r : Bool) → bytes_eq a b ≡ r → bytes_eq (p ++ a) (p ++ b) ≡ r
    go true e = text_same (p ++ a) (p ++ b) (ap (λ t. p ++ t) (same_text a b e))
    go false e = other_text (p ++ a) (p ++ b) (λ h. text_other a b e (cancel p a b h))

-- ---- slashes

or_right : (b : Bool) → b || true ≡ true
or_right true = refl
or_right false = refl

pub or_false : (a b : Bool) → a || b ≡ false → (a ≡ false) × (b ≡ false)
or_false true b e = absurd (true≢false e)
or_false false b e = (refl, e)

slash_in : (a s : List ℕ) → has_slash (a ++ 47 ∷ s) ≡ true
slash_in [] s = refl
slash_in (x ∷ a) s = ap (λ b. nat_eq x 47 || b) (slash_in a s) ∙ or_right (nat_eq x 47)

-- a text with no slash is none that has one
pub slashless : (a b s : List ℕ) → has_slash a ≡ false → a ≡ b ++ 47 ∷ s → ⊥
slashless a b s unlike e = false≢true (sym unlike ∙ ap has_slash e ∙ slash_in b s)

-- what stands before the first slash
pub before_slash : (a b r s : List ℕ) → has_slash a ≡ false → has_slash b ≡ false → a ++ 47 ∷ r ≡ b ++ 47 ∷ s → a ≡ b
before_slash [] [] r s no_a no_b e = refl
before_slash [] (y ∷ b) r s no_a no_b e =
    absurd (true≢false (sym (ap (λ x. nat_eq x 47) (sym (ap first e))) ∙ (or_false (nat_eq y 47) (has_slash b) no_b).0))
before_slash (x ∷ a) [] r s no_a no_b e =
    absurd (true≢false (sym (ap (λ x. nat_eq x 47) (ap first e)) ∙ (or_false (nat_eq x 47) (has_slash a) no_a).0))
before_slash (x ∷ a) (y ∷ b) r s no_a no_b e =
    let tails : a ≡ b = before_slash a b r s (or_false (nat_eq x 47) (has_slash a) no_a).1 (or_false (nat_eq y 47) (has_slash b) no_b).1 (ap rest e) in
    ap (λ z. z ∷ a) (ap first e) ∙ ap (λ t. y ∷ t) tails

-- ---- options

pub not_none : {A : Type 0} {P : Type 0} (x : A) → Some x ≡ None → P
not_none x e = absurd (true≢false (ap is_some e))

pub or_none : {A : Type 0} (a b : Option A) → option_or a b ≡ None → (a ≡ None) × (b ≡ None)
or_none None b e = (refl, e)
or_none (Some x) b e = not_none x e

pub none_is : {A : Type 0} (o : Option A) → is_some o ≡ false → o ≡ None
none_is None e = refl
none_is (Some x) e = absurd (true≢false e)

-- ---- what stands under a name

pub look-append : {A : Type 0} (xs ys : List (List ℕ × A)) (name : List ℕ) → look (xs ++ ys) name ≡ option_or (look xs name) (look ys name)
look-append [] ys name = refl
look-append (x ∷ xs) ys name = go (bytes_eq x.0 name) (look-append xs ys name)
  where
    go : (b : Bool) → look (xs ++ ys) name ≡ option_or (look xs name) (look ys name)
        → (if b then Some x.1 else look (xs ++ ys) name) ≡ option_or (if b then Some x.1 else look xs name) (look ys name)
    go true more = refl
    go false more = more

pub among-append : (xs ys : List (List ℕ)) (name : List ℕ) → is_among (xs ++ ys) name ≡ is_among xs name || is_among ys name
among-append [] ys name = refl
among-append (x ∷ xs) ys name = go (bytes_eq x name) (among-append xs ys name)
  where
    go : (b : Bool) → is_among (xs ++ ys) name ≡ is_among xs name || is_among ys name
        → b || is_among (xs ++ ys) name ≡ (b || is_among xs name) || is_among ys name
    go true more = refl
    go false more = more

-- nothing stands under other names than those with this prefix
abbrev pub AreUnder : {A : Type 0} → List (List ℕ × A) → List ℕ → Type 0
AreUnder es prefix = (text : List ℕ) → ((s : List ℕ) → text ≡ prefix ++ s → ⊥) → look es text ≡ None

pub both_under : {A : Type 0} (xs ys : List (List ℕ × A)) (prefix : List ℕ) → AreUnder xs prefix → AreUnder ys prefix → AreUnder (xs ++ ys) prefix
both_under xs ys prefix u v text unlike = look-append xs ys text ∙ ap (λ o. option_or o (look ys text)) (u text unlike) ∙ v text unlike

pub one_under : {A : Type 0} (prefix name : List ℕ) (v : A) → AreUnder ((prefix ++ name, v) ∷ []) prefix
one_under prefix name v text unlike =
    ap (λ b. if b then Some v else None) (other_text (prefix ++ name) text (λ e. unlike name (sym e)))

-- ---- rows

pub find_none : {A : Type 0} (p : A → Bool) (a : A) (xs : List A) → find p (a ∷ xs) ≡ None → (p a ≡ false) × (find p xs ≡ None)
find_none p a xs e = go (p a) refl e
  where
    go : (b : Bool) → p a ≡ b → (if b then Some a else find p xs) ≡ None → (p a ≡ false) × (find p xs ≡ None)
    go true is e = not_none a e
    go false is e = (is, e)

pub not_false : (b : Bool) → not b ≡ false → b ≡ true
not_false true e = refl
not_false false e = absurd (true≢false e)

pub look_find : {A : Type 0} (es : List (List ℕ × A)) (name : List ℕ) → look es name ≡ option_map (λ e. e.1) (find (λ e. bytes_eq e.0 name) es)
look_find [] name = refl
look_find (e ∷ es) name = go (bytes_eq e.0 name) (look_find es name)
  where
    go : (b : Bool) → look es name ≡ option_map (λ e. e.1) (find (λ e. bytes_eq e.0 name) es)
        → (if b then Some e.1 else look es name) ≡ option_map (λ e. e.1) (if b then Some e else find (λ e. bytes_eq e.0 name) es)
    go true more = refl
    go false more = more
