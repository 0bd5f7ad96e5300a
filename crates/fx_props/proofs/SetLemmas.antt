-- A set as the list of its properties, each with its name.
use Rattle.std.proofs.Common.{◌≡◌, ◌≢◌, ℕ, ◌<◌, ◌≤◌, ltb, Bool, true, false, cond, List, [], ◌∷◌, length, get_or, set, map, Option, Some, None, zero, suc, refl, sym, ap, ◌∙◌, arith}
use Rattle.std.specs.Borrow.{Bor}
use Rattle.std.specs.List.{find, position, position_or_len}
use Rattle.std.specs.Option.{option_map, option_copied}
use Rattle.std.specs.Ordering.{nat_cmp}
use Rattle.std.specs.Cmp.Lexicographic.{slice_cmp, nat_list_cmp_total}
use Rattle.std.specs.FinMap as finite
use Rattle.std.specs.Str.{bytes_eq}
use Rattle.std.proofs.lemmas.Bool.{cond-true, cond-false, false_from_ne_true, false≢true}
use Rattle.std.proofs.lemmas.Bool.Decides.{nat_tests}
use Rattle.std.proofs.lemmas.List.Folds.{find_at}
use Rattle.std.proofs.lemmas.List.Quantifiers.{position-Some}
use Rattle.std.proofs.lemmas.Option.{slice_get_past, same_Some, none-some}
use Rattle.std.proofs.lemmas.Map.Text.{is_eq-slice_cmp}
use Rattle.std.proofs.lemmas.Slice.Eq.{bytes_eq-Decides}
use Rattle.fx_props.specs.declared.def.PropDef.{PropDef}
use Rattle.fx_props.specs.declared.value.PropKind.{PropKind}
use Rattle.fx_props.specs.declared.value.PropValue.{PropValue}
use Rattle.fx_props.specs.Value.{same_kind}
use Rattle.fx_props.specs.Property.{Property, property_made, with_values, of_kind}
use Rattle.fx_props.specs.Set.{property, made, Replaces}

abbrev pub Named : Type 0
Named = List ℕ × Property

-- the property of a name among named ones
abbrev pub among : List Named → List ℕ → Option Property
among entries name = option_map (λ p. p.1) (find (λ p. bytes_eq name p.0) entries)

among_first : (e : Named) (entries : List Named) (name : List ℕ) → among (e ∷ entries) name ≡ cond (bytes_eq name e.0) (Some e.1) (among entries name)
among_first e entries name = elim (bytes_eq name e.0) as (λ b. option_map (λ p. p.1) (cond b (Some e) (find (λ p. bytes_eq name p.0) entries)) ≡ cond b (Some e.1) (among entries name)) [ true ↦ refl | false ↦ refl ]

found_among : (entries : List Named) (name : List ℕ) → finite.find (slice_cmp nat_cmp) name entries ≡ among entries name
found_among [] name = refl
found_among (e ∷ entries) name =
    rw is_eq-slice_cmp (ap (λ o. cond (bytes_eq name e.0) (Some e.1) o) (found_among entries name)) ∙ sym (among_first e entries name)

pub property_among : (entries : List Named) (name : List ℕ) → property (finite.from_entries entries) name ≡ among entries name
property_among entries name = finite.get-from_entries nat_list_cmp_total entries name ∙ found_among entries name

pub copied_value : (r : Option (Bor Named)) → option_map (λ p. p.now.1) r ≡ option_map (λ p. p.1) (option_copied r)
copied_value None = refl
copied_value (Some p) = refl

-- the named property that a definition makes
abbrev pub named_made : PropDef → Named
named_made def = (def.name, property_made def)

pub among_made : (defs : List PropDef) (name : List ℕ) → among (map named_made defs) name ≡ made defs name
among_made [] name = refl
among_made (def ∷ defs) name = among_first (named_made def) (map named_made defs) name ∙ ap (λ o. cond (bytes_eq name def.name) (Some (property_made def)) o) (among_made defs name)

-- ---- the property at a place

named_is : (name other : List ℕ) → bytes_eq name other ≡ true → name ≡ other
named_is name other e = (bytes_eq-Decides name other).0 e

is_named : (name other : List ℕ) → name ≡ other → bytes_eq name other ≡ true
is_named name other e = (bytes_eq-Decides name other).1 e

is_other : (name other : List ℕ) → name ≢ other → bytes_eq name other ≡ false
is_other name other e = false_from_ne_true _ (λ t. e (named_is name other t))

-- the first entry of the name stands at the place
record IsFirst (entries : List Named) (name : List ℕ) (at : ℕ) (e : Named) : Type 0 where
  inside : at < length entries
  is : e ≡ get_or entries at e
  named : bytes_eq name e.0 ≡ true
  others : (k : ℕ) → k < at → bytes_eq name (get_or entries k e).0 ≡ false

first_at : (entries : List Named) (name : List ℕ) (at : ℕ) (e : Named) → position (λ p. bytes_eq name p.0) entries ≡ Some at → e ≡ get_or entries at e → IsFirst entries name at e
first_at entries name at e found is =
    let facts = position-Some (λ p. bytes_eq name p.0) entries at e found in
    record { inside = facts.0; is = is; named = ap (λ p. bytes_eq name p.0) is ∙ facts.1; others = facts.2 }

first_rest : (x : Named) (entries : List Named) (name : List ℕ) (at : ℕ) (e : Named) → IsFirst (x ∷ entries) name (suc at) e → IsFirst entries name at e
first_rest x entries name at e first = record {
  inside = omega (arith, first.inside);
  is = first.is;
  named = first.named;
  others = λ k lt. first.others (suc k) (omega arith);
}

-- a test that is repeated, and two tests of which one fails
shadowed : (b : Bool) (x y z : Option Property) → cond b x z ≡ cond b x (cond b y z)
shadowed true x y z = refl
shadowed false x y z = refl

swapped : (a b : Bool) (x y z : Option Property) → (a ≡ true → b ≡ true → ⊥) → cond a x (cond b y z) ≡ cond b y (cond a x z)
swapped true true x y z apart = absurd (apart refl refl)
swapped true false x y z apart = refl
swapped false b x y z apart = refl

among_at : (entries : List Named) (name : List ℕ) (at : ℕ) (e : Named) → IsFirst entries name at e → among entries name ≡ Some e.1
among_at [] name at e first = absurd (omega (arith, first.inside))
among_at (x ∷ entries) name zero e first =
    among_first x entries name
    ∙ cond-true (bytes_eq name x.0) (Some x.1) (among entries name) (ap (λ q. bytes_eq name q.0) (sym first.is) ∙ first.named)
    ∙ ap (λ q. Some q.1) (sym first.is)
among_at (x ∷ entries) name (suc at) e first =
    among_first x entries name
    ∙ cond-false (bytes_eq name x.0) (Some x.1) (among entries name) (first.others 0 (omega arith))
    ∙ among_at entries name at e (first_rest x entries name at e first)

among-set : (entries : List Named) (name : List ℕ) (at : ℕ) (e : Named) (p : Property) → IsFirst entries name at e → (n : List ℕ) → among (set entries at (e.0, p)) n ≡ cond (bytes_eq n name) (Some p) (among entries n)
among-set [] name at e p first n = absurd (omega (arith, first.inside))
among-set (x ∷ entries) name zero e p first n =
    let same : name ≡ e.0 = named_is name e.0 first.named in
    let x_same : x.0 ≡ name = ap (λ q. q.0) (sym first.is) ∙ sym same in
    among_first (e.0, p) entries n
    ∙ ap (λ m. cond (bytes_eq n m) (Some p) (among entries n)) (sym same)
    ∙ shadowed (bytes_eq n name) (Some p) (Some x.1) (among entries n)
    ∙ ap (λ o. cond (bytes_eq n name) (Some p) o) (sym (among_first x entries n ∙ ap (λ m. cond (bytes_eq n m) (Some x.1) (among entries n)) x_same))
among-set (x ∷ entries) name (suc at) e p first n =
    let differs = first.others 0 (omega arith) in
    let apart : bytes_eq n x.0 ≡ true → bytes_eq n name ≡ true → ⊥ = λ a b. false≢true (sym differs ∙ is_named name x.0 (sym (named_is n name b) ∙ named_is n x.0 a)) in
    among_first x (set entries at (e.0, p)) n
    ∙ ap (λ o. cond (bytes_eq n x.0) (Some x.1) o) (among-set entries name at e p (first_rest x entries name at e first) n)
    ∙ swapped (bytes_eq n x.0) (bytes_eq n name) (Some x.1) (Some p) (among entries n) apart
    ∙ ap (λ o. cond (bytes_eq n name) (Some p) o) (sym (among_first x entries n))

-- ---- what that says of the set

pub property_at : (entries : List Named) (name : List ℕ) (at : ℕ) (e : Named) → position (λ p. bytes_eq name p.0) entries ≡ Some at → e ≡ get_or entries at e → property (finite.from_entries entries) name ≡ Some e.1
property_at entries name at e found is = property_among entries name ∙ among_at entries name at e (first_at entries name at e found is)

past_all : (n len : ℕ) → cond (ltb n len) (Some n) None ≡ None → len ≤ n
past_all n len none = grind (arith, nat_tests)

pub property_none : (entries : List Named) (name : List ℕ) → position (λ p. bytes_eq name p.0) entries ≡ None → property (finite.from_entries entries) name ≡ None
property_none entries name none =
    let past : length entries ≤ position_or_len (λ p. bytes_eq name p.0) entries = past_all _ _ none in
    property_among entries name
    ∙ ap (option_map (λ p. p.1)) (find_at (λ p. bytes_eq name p.0) entries ∙ slice_get_past entries _ past)

-- the property at the place got another list
pub replaces_at : (entries : List Named) (name : List ℕ) (at : ℕ) (e new : Named) (values : List PropValue) → position (λ p. bytes_eq name p.0) entries ≡ Some at → e ≡ get_or entries at e → new ≡ (e.0, with_values e.1 values) → Replaces (finite.from_entries entries) (finite.from_entries (set entries at new)) name values
replaces_at entries name at e new values found is made_new =
    let first = first_at entries name at e found is in
    let p = with_values e.1 values in
    let after : (n : List ℕ) → property (finite.from_entries (set entries at new)) n ≡ cond (bytes_eq n name) (Some p) (among entries n)
    = λ n. property_among (set entries at new) n ∙ ap (λ q. among (set entries at q) n) made_new ∙ among-set entries name at e p first n in
    record {
      there = after name ∙ cond-true _ _ _ (is_named name name refl) ∙ ap (option_map (λ q. with_values q values)) (sym (property_at entries name at e found is));
      rest = λ n other. after n ∙ cond-false _ _ _ (is_other n name other) ∙ sym (property_among entries n);
    }

-- ---- a property of a kind

pub values_of_kind : (kind : PropKind) (p : Property) (values : List PropValue) → option_map (λ q. q.values) (of_kind kind p) ≡ Some values → p.values ≡ values
values_of_kind kind p values =
    elim (same_kind p.kind kind) as (λ b. option_map (λ q. q.values) (cond b (Some p) None) ≡ Some values → p.values ≡ values) [
      | true ↦ λ e. same_Some _ _ e
      | false ↦ λ e. absurd (none-some _ e)
    ]
