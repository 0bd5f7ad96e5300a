-- Numbers that are written over in a set.
use Rattle.std.proofs.Common.{◌≡◌, ◌≢◌, ◌<◌, ◌≤◌, ◌+◌, ℕ, ℤ, ltb, true, false, List, [], ◌∷◌, ◌++◌, set, take, length, get_or, All, Some, None, refl, sym, ap, subst, ◌∙◌, arith}
use Rattle.std.specs.Option.{option_map, option_and_then}
use Rattle.std.proofs.lemmas.Bool.{cond-true, cond-false, false_from_ne_true}
use Rattle.std.proofs.lemmas.Bool.Decides.{nat_tests}
use Rattle.std.proofs.lemmas.List.{length-map, map-set, set-get_or, take_more_set, take_all}
use Rattle.std.specs.Str.{bytes_eq}
use Rattle.std.proofs.lemmas.Slice.Eq.{bytes_eq-Decides}
use Rattle.std.proofs.lemmas.List.Elements.{All-cons, All-nil}
use Rattle.fx_base.specs.Rect.{IsFrame}
use Rattle.fx_props.specs.declared.def.PropDef.{PropDef}
use Rattle.fx_props.specs.declared.value.PropKind.{PropKind}
use Rattle.fx_props.specs.declared.value.PropKind.TheVariants as kind
use Rattle.fx_props.specs.Value.{kind_of, same_kind}
use Rattle.fx_props.specs.Property.{Property, of_kind, placed, property_made, takes_at, with_values}
use Rattle.fx_props.specs.Set.{Set, Puts, made, property, property_of, refusal, values_of}
use Rattle.fx_actions.specs.Asking.{HasNumbers, number_value, numbers}

-- a number is a value of its kind
pub number_kind : (k : PropKind) (n : ℤ) → k ≢ kind.Text → kind_of (number_value k n) ≡ k
number_kind kind.Int n some = refl
number_kind kind.Fix n some = refl
number_kind kind.Text n some = absurd (some refl)

same_kind-same : (k : PropKind) → same_kind k k ≡ true
same_kind-same kind.Int = refl
same_kind-same kind.Fix = refl
same_kind-same kind.Text = refl

of_own_kind : (k : PropKind) (p : Property) → p.kind ≡ k → of_kind k p ≡ Some p
of_own_kind k p is = subst (λ j. of_kind j p ≡ Some p) is (cond-true _ _ _ (same_kind-same p.kind))

property_is : (set : Set) (name : List ℕ) (k : PropKind) (held : List ℤ) (h : HasNumbers set name k held)
    → property_of set k name ≡ Some h.found
property_is set name k held h = ap (option_and_then (of_kind k)) h.there ∙ of_own_kind k h.found h.of_kind

-- it shows them
pub has_values : (set : Set) (name : List ℕ) (k : PropKind) (held : List ℤ) → HasNumbers set name k held
    → values_of set k name ≡ Some (numbers k held)
has_values set name k held h =
    ap (option_map (λ (p : Property). p.values)) (property_is set name k held h) ∙ ap (λ vs. Some vs) h.values

-- a number may be put over one of them
pub takes_number : (set : Set) (name : List ℕ) (k : PropKind) (held : List ℤ) (i : ℕ) (n : ℤ) → HasNumbers set name k held
    → k ≢ kind.Text → i < length held → refusal set name i (number_value k n) ≡ None
takes_number set name k held i n h some low =
    let p = h.found in
    let long : length p.values ≡ length held = ap (λ vs. length vs) h.values ∙ length-map held (number_value k) in
    let inside : i < length p.values = omega (arith, low, long) in
    let takes : takes_at p i ≡ true = grind (arith, nat_tests) in
    let there : property_of set (kind_of (number_value k n)) name ≡ Some p =
    ap (λ j. property_of set j name) (number_kind k n some) ∙ property_is set name k held h in
    rw (there, takes, h.any) refl

-- then it has that one in its place
pub number_put : (old new : Set) (name : List ℕ) (k : PropKind) (held : List ℤ) (i : ℕ) (n : ℤ)
    → HasNumbers old name k held → k ≢ kind.Text → i < length held → Puts old new name i (number_value k n)
    → HasNumbers new name k (set held i n)
number_put old new name k held i n h some low puts =
    let v = number_value k n in
    let vs = numbers k held in
    let replaces = puts vs (ap (λ j. values_of old j name) (number_kind k n some) ∙ has_values old name k held h) in
    let inside : ltb i (length vs) ≡ true = (let long = length-map held (number_value k) in grind (arith, nat_tests)) in
    record {
      found = with_values h.found (placed vs i v);
      there = replaces.there ∙ ap (option_map (λ q. with_values q (placed vs i v))) h.there;
      of_kind = h.of_kind;
      values = cond-true _ _ _ inside ∙ sym (map-set (number_value k) held i n);
      any = h.any;
    }

-- and every other property stays
pub others_stay : (old new : Set) (name : List ℕ) (k : PropKind) (held : List ℤ) (i : ℕ) (n : ℤ)
    → HasNumbers old name k held → k ≢ kind.Text → Puts old new name i (number_value k n)
    → (other : List ℕ) → other ≢ name → property new other ≡ property old other
others_stay old new name k held i n h some puts other differs =
    (puts (numbers k held) (ap (λ j. values_of old j name) (number_kind k n some) ∙ has_values old name k held h)).rest other differs

-- numbers in a property that stays
pub numbers_stay : (old new : Set) (name : List ℕ) (k : PropKind) (held : List ℤ)
    → property new name ≡ property old name → HasNumbers old name k held → HasNumbers new name k held
numbers_stay old new name k held same h =
    record { found = h.found; there = same ∙ h.there; of_kind = h.of_kind; values = h.values; any = h.any }

-- one number more is as it is wanted
pub renewed_more : (old new wanted : List ℤ) (i : ℕ) (n : ℤ) → i < length old → i < length wanted → n ≡ get_or wanted i n
    → take i old ≡ take i wanted → new ≡ set old i n → take (i + 1) new ≡ take (i + 1) wanted
renewed_more old new wanted i n low inside is so now =
    ap (take (i + 1)) now ∙ take_more_set old i n low ∙ ap (λ xs. xs ++ n ∷ []) so
    ∙ sym (take_more_set wanted i n inside)
    ∙ ap (take (i + 1)) (ap (λ m. set wanted i m) is ∙ set-get_or wanted i n)

-- in the end all are
pub renewed_all : (new wanted : List ℤ) (i : ℕ) → length wanted ≤ i → length new ≡ length wanted
    → take i new ≡ take i wanted → new ≡ wanted
renewed_all new wanted i past long so =
    sym (take_all i new (omega (arith, past, long))) ∙ so ∙ take_all i wanted past

-- ---- a set that was made of two definitions

same_name : (name : List ℕ) → bytes_eq name name ≡ true
same_name name = (bytes_eq-Decides name name).1 refl

other_name : (name other : List ℕ) → name ≢ other → bytes_eq name other ≡ false
other_name name other differs = false_from_ne_true _ (λ e. differs ((bytes_eq-Decides name other).0 e))

has_made : (set : Set) (name : List ℕ) (def : PropDef) (k : PropKind) (held : List ℤ)
    → property set name ≡ Some (property_made def) → def.kind ≡ k → def.start ≡ numbers k held → def.allowed ≡ []
    → HasNumbers set name k held
has_made set name def k held there of_kind start any =
    record { found = property_made def; there = there; of_kind = of_kind; values = start; any = any }

pub first_made : (set : Set) (first second : PropDef) (k : PropKind) (held : List ℤ)
    → ((name : List ℕ) → property set name ≡ made (first ∷ second ∷ []) name) → (name : List ℕ) → first.name ≡ name
    → first.kind ≡ k → first.start ≡ numbers k held → first.allowed ≡ [] → HasNumbers set name k held
first_made set first second k held are name named of_kind start any =
    has_made set name first k held
    (are name ∙ cond-true _ _ _ (ap (bytes_eq name) named ∙ same_name name)) of_kind start any

pub second_made : (set : Set) (first second : PropDef) (k : PropKind) (held : List ℤ)
    → ((name : List ℕ) → property set name ≡ made (first ∷ second ∷ []) name) → (name : List ℕ) → second.name ≡ name
    → name ≢ first.name → second.kind ≡ k → second.start ≡ numbers k held → second.allowed ≡ [] → HasNumbers set name k held
second_made set first second k held are name named apart of_kind start any =
    has_made set name second k held
    (are name ∙ cond-false _ _ _ (other_name name first.name apart)
    ∙ cond-true _ _ _ (ap (bytes_eq name) named ∙ same_name name)) of_kind start any

pub four_frames : (a b c d : ℤ) → IsFrame a → IsFrame b → IsFrame c → IsFrame d → All IsFrame (a ∷ b ∷ c ∷ d ∷ [])
four_frames a b c d first second third fourth =
    All-cons IsFrame a (b ∷ c ∷ d ∷ []) first
    (All-cons IsFrame b (c ∷ d ∷ []) second
    (All-cons IsFrame c (d ∷ []) third (All-cons IsFrame d [] fourth (All-nil IsFrame))))
