-- What is read of values that stand in a set.
use Rattle.std.proofs.Common.{◌≡◌, ◌∙◌, ℕ, ◌+◌, ◌*◌, ◌<◌, zero, suc, inl, inr, ℤ, pos, neg_ℤ, ◌*ℤ◌, true, false, cond, List, [], ◌∷◌, ◌++◌, length, get_or, take, Option, Some, None, Result, Ok, refl, sym, ap, arith}
use Rattle.std.specs.List.{slice_get}
use Rattle.std.specs.Option.{option_map, option_and_then, ok_or}
use Rattle.std.proofs.lemmas.List.{take_more}
use Rattle.std.proofs.lemmas.Option.{none-some, same_Some}
use Rattle.fx_props.specs.declared.value.PropKind.{PropKind}
use Rattle.fx_props.specs.declared.value.PropValue.{PropValue}
use Rattle.fx_props.specs.declared.value.PropValue.TheVariants as value
use Rattle.fx_props.specs.declared.fault.PropFault.{PropFault}
use Rattle.fx_props.specs.declared.fault.PropFault.TheVariants.{ErrUnknown, ErrBadIndex}
use Rattle.fx_props.specs.Value.{same_kind}
use Rattle.fx_props.specs.Property.{Property, of_kind, value_in}
use Rattle.fx_props.specs.Set.{Set, property, values_of, read, dimension_of}
use Rattle.std.proofs.lemmas.Int.{ints}
use Rattle.fx_base.specs.Bounds.{Bounds, IsRect}
use Rattle.fx_base.specs.Rect.{rect_of, floor, ceiling, cover}
use Rattle.fx_base.specs.declared.fix.Fix.{Fix}
use Rattle.fx_base.proofs.CoverLemmas.{IsFloor-div}
use Rattle.fx_props.specs.Entries.{whole, range_values, texts}

pub read_at : (set : Set) (kind : PropKind) (name : List ℕ) (values : List PropValue) (i : ℕ) (v : PropValue) → values_of set kind name ≡ Some values → slice_get values i ≡ Some v → read set kind name i ≡ Ok v
read_at set kind name values i v there at = ap (λ o. value_in o i) there ∙ ap (λ o. ok_or o ErrBadIndex) at

-- the number that was read
pub raw_of : (r : Result PropValue PropFault) (n : Fix) (x : ℤ) → r ≡ Ok (value.Fix n) → r ≡ Ok (whole x) → n.raw ≡ x *ℤ pos 65536
raw_of r n x is there = let same : n ≡ record { raw = x *ℤ pos 65536 } = cc in ap (λ (f : Fix). f.raw) same

-- ---- how many values there are

values_of_kind : (kind : PropKind) (p : Property) (values : List PropValue) → option_map (λ q. q.values) (of_kind kind p) ≡ Some values → p.values ≡ values
values_of_kind kind p values =
    elim (same_kind p.kind kind) as (λ b. option_map (λ q. q.values) (cond b (Some p) None) ≡ Some values → p.values ≡ values) [
      | true ↦ λ e. same_Some _ _ e
      | false ↦ λ e. absurd (none-some _ e)
    ]

counted : (kind : PropKind) (values : List PropValue) (n : ℕ) (o : Option Property) → option_map (λ p. p.values) (option_and_then (of_kind kind) o) ≡ Some values → ok_or (option_map (λ p. length p.values) o) ErrUnknown ≡ Ok n → n ≡ length values
counted kind values n None there is = absurd (none-some values there)
counted kind values n (Some p) there is = let same : length p.values ≡ n = cc in sym same ∙ ap length (values_of_kind kind p values there)

pub count_of : (set : Set) (kind : PropKind) (name : List ℕ) (values : List PropValue) (n : ℕ) → values_of set kind name ≡ Some values → dimension_of set name ≡ Ok n → n ≡ length values
count_of set kind name values n there is = counted kind values n (property set name) there is

-- ---- pairs of frames

twice_suc : (k : ℕ) → 2 * suc k ≡ suc (suc (2 * k))
twice_suc k = omega arith

pub length-range_values : (spans : List (ℤ × ℤ)) → length (range_values spans) ≡ 2 * length spans
length-range_values [] = refl
length-range_values (span ∷ spans) = omega (arith, length-range_values spans)

pub first_at : (spans : List (ℤ × ℤ)) (k : ℕ) (d : ℤ × ℤ) → k < length spans → slice_get (range_values spans) (2 * k) ≡ Some (whole (get_or spans k d).0)
first_at [] k d lt = absurd (omega arith)
first_at (span ∷ spans) zero d lt = refl
first_at (span ∷ spans) (suc k) d lt = rw (twice_suc k) (first_at spans k d (omega arith))

pub last_at : (spans : List (ℤ × ℤ)) (k : ℕ) (d : ℤ × ℤ) → k < length spans → slice_get (range_values spans) (suc (2 * k)) ≡ Some (whole (get_or spans k d).1)
last_at [] k d lt = absurd (omega arith)
last_at (span ∷ spans) zero d lt = refl
last_at (span ∷ spans) (suc k) d lt = rw (twice_suc k) (last_at spans k d (omega arith))

-- one pair more
pub take-pair : (spans now items : List (ℤ × ℤ)) (k : ℕ) (first last : ℤ) (d : ℤ × ℤ) → k < length spans → now ≡ items ++ (first, last) ∷ [] → items ≡ take k spans → first ≡ (get_or spans k d).0 → last ≡ (get_or spans k d).1 → now ≡ take (k + 1) spans
take-pair spans now items k first last d within pushed so_far is_first is_last =
    let pair : (first, last) ≡ get_or spans k d = ap (λ a. (a, last)) is_first ∙ ap (λ b. ((get_or spans k d).0, b)) is_last in
    pushed ∙ ap (λ xs. xs ++ (first, last) ∷ []) so_far ∙ ap (λ p. take k spans ++ p ∷ []) pair ∙ sym (take_more spans k d within)

-- ---- the rectangle that whole numbers tell

floor-whole : (n : Fix) (x : ℤ) → n.raw ≡ x *ℤ pos 65536 → floor n ≡ x
floor-whole n x is = let whole = IsFloor-div n.raw in omega (arith, ints)

ceiling-whole : (n : Fix) (x : ℤ) → n.raw ≡ x *ℤ pos 65536 → ceiling n ≡ x
ceiling-whole n x is = let whole = IsFloor-div (neg_ℤ n.raw) in omega (arith, ints)

pub rect_of-rect : (r : Bounds) → IsRect r → rect_of r.x1 r.y1 r.x2 r.y2 ≡ r
rect_of-rect r (inl is) = ap (λ b. rect_of b.x1 b.y1 b.x2 b.y2) is ∙ sym is
rect_of-rect r (inr proper) = grind (arith, ints, proper.0, proper.1)

pub cover-whole : (r : Bounds) (x1 y1 x2 y2 : Fix) → IsRect r → x1.raw ≡ r.x1 *ℤ pos 65536 → y1.raw ≡ r.y1 *ℤ pos 65536 → x2.raw ≡ r.x2 *ℤ pos 65536 → y2.raw ≡ r.y2 *ℤ pos 65536 → cover x1 y1 x2 y2 ≡ r
cover-whole r x1 y1 x2 y2 rect left bottom right top =
    rw (floor-whole x1 r.x1 left, floor-whole y1 r.y1 bottom, ceiling-whole x2 r.x2 right, ceiling-whole y2 r.y2 top) (rect_of-rect r rect)

-- ---- texts

pub text_at : (items : List (List ℕ)) (k : ℕ) → k < length items → slice_get (texts items) k ≡ Some (value.Text (get_or items k []))
text_at [] k lt = absurd (omega arith)
text_at (item ∷ items) zero lt = refl
text_at (item ∷ items) (suc k) lt = text_at items k (omega arith)

-- the text that was read
pub text_of : (r : Result PropValue PropFault) (a b : List ℕ) → r ≡ Ok (value.Text a) → r ≡ Ok (value.Text b) → a ≡ b
text_of r a b is there = cc

-- one text more
pub take-text : (items now before : List (List ℕ)) (k : ℕ) (a b : List ℕ) → k < length items → now ≡ before ++ a ∷ [] → before ≡ take k items → a ≡ b → b ≡ get_or items k [] → now ≡ take (k + 1) items
take-text items now before k a b within pushed so_far copy is =
    pushed ∙ ap (λ xs. xs ++ a ∷ []) so_far ∙ ap (λ x. take k items ++ x ∷ []) (copy ∙ is) ∙ sym (take_more items k [] within)
