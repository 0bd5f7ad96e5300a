-- What a length is divided to, and that it stays within its range.
use Rattle.std.proofs.Common.{◌≡◌, ◌≤◌, ◌<◌, ◌==◌, ◌||◌, ◌&&◌, ℕ, zero, suc, ◌+◌, ◌*◌, ℤ, pos, negsuc, ◌+ℤ◌, ◌*ℤ◌, ◌≤ℤ◌, Bool, true, false, cond, List, [], ◌∷◌, map, take, get_or, All, Some, slice_get, refl, sym, ap, subst, ◌∙◌, arith, inl, inr}
use Rattle.std.specs.Int.{int_div_euclid, int_max}
use Rattle.std.specs.Int.Signed.{le_z}
use Rattle.std.specs.List.{list_all}
use Rattle.std.specs.Prelude.{if◌then◌else◌}
use Rattle.std.proofs.Math.Nat.{mul-le-mul_left}
use Rattle.std.proofs.lemmas.Bool.{and_parts, cases_Bool, false≢true}
use Rattle.std.proofs.lemmas.Int.{ints, clamps}
use Rattle.std.proofs.lemmas.List.{length-map}
use Rattle.std.proofs.lemmas.List.Elements.{All-head, All-tail, All-map, All-weaker}
use Rattle.std.proofs.lemmas.Nat.{div_below}
use Rattle.std.proofs.lemmas.Option.{none-some, same_Some}
use Rattle.fx_params.specs.declared.def.ParamDef.{ParamDef}
use Rattle.fx_params.specs.declared.key.Key.{Key}
use Rattle.fx_base.specs.Rect.{IsFrame}
use Rattle.fx_params.specs.Keys.{IsRising}
use Rattle.fx_params.specs.Parameter.{IsSound, Parameter, divided, divided_from, with_value, with_values}
use Rattle.fx_params.specs.Value.{IsWithin}
use Rattle.fx_gen.specs.Checker.{checker_params}
use Rattle.fx_area.specs.Boxblur.{radii}
use Rattle.fx_area.specs.Erode.{radius_params}
use Rattle.fx_move.specs.Crop.{crop_params}
use Rattle.fx_move.specs.Translate.{translate_params}
use Rattle.fx_shipped.specs.Shipped.{number_of}
use Rattle.fx_shipped.specs.declared.shipped.Shipped.TheVariants as shipped
use Rattle.fx_proxy.specs.Lengths.{HasLength, is_length, lengths_of, scaled_number, scaled_param}

-- ---- the ranges of lengths

-- 0 lies in the range, but that of checker's size begins at 1
record IsRanged (size : Bool) (def : ParamDef) : Type 0 where
  least_size : size ≡ true → def.least ≡ pos 1
  least : size ≡ false → def.least ≤ℤ pos 0
  greatest : pos 0 ≤ℤ def.greatest

-- whether it is so
abbrev is_ranged : Bool → ParamDef → Bool
is_ranged size def =
    le_z (pos 0) def.greatest && (if size then le_z (pos 1) def.least && le_z def.least (pos 1) else le_z def.least (pos 0))

by_tests : (size blur radius corner move : Bool)
    → list_all (is_ranged size) (if size then take 1 checker_params else (if blur then radii else (if radius then radius_params else (if corner then crop_params else (if move then translate_params else [])))))
    ≡ true
by_tests true b r c m = refl
by_tests false true r c m = refl
by_tests false false true c m = refl
by_tests false false false true m = refl
by_tests false false false false true = refl
by_tests false false false false false = refl

of_size : (def : ParamDef) → is_ranged true def ≡ true → (pos 0 ≤ℤ def.greatest) × (pos 1 ≤ℤ def.least) × (def.least ≤ℤ pos 1)
of_size def h = (grind (arith, ints), grind (arith, ints), grind (arith, ints))

of_other : (def : ParamDef) → is_ranged false def ≡ true → (pos 0 ≤ℤ def.greatest) × (def.least ≤ℤ pos 0)
of_other def h = (grind (arith, ints), grind (arith, ints))

to_ranged : (size : Bool) (def : ParamDef) → is_ranged size def ≡ true → IsRanged size def
to_ranged true def h =
    let r = of_size def h in
    record { least_size = λ _. omega (arith, ints, r.1, r.2); least = λ other. absurd (false≢true (sym other)); greatest = r.0 }
to_ranged false def h =
    let r = of_other def h in
    record { least_size = λ other. absurd (false≢true other); least = λ _. r.1; greatest = r.0 }

among : {X : Type 0} (p : X → Bool) (xs : List X) (k : ℕ) (x : X) → list_all p xs ≡ true → slice_get xs k ≡ Some x → p x ≡ true
among p [] k x h there = absurd (none-some x there)
among p (y ∷ ys) zero x h there = subst (λ z. p z ≡ true) (same_Some y x there) (and_parts (p y) (list_all p ys) h).0
among p (y ∷ ys) (suc k) x h there = among p ys k x (and_parts (p y) (list_all p ys) h).1 there

ranged : (effect place : ℕ) (p : Parameter) → is_length effect place ≡ true → HasLength effect place p
    → IsRanged (effect == number_of shipped.Checker) p.def
ranged effect place p is has =
    to_ranged (effect == number_of shipped.Checker) p.def
    (among (is_ranged (effect == number_of shipped.Checker)) (lengths_of effect) place p.def
    (by_tests (effect == number_of shipped.Checker) (effect == number_of shipped.Boxblur)
    (effect == number_of shipped.Erode || effect == number_of shipped.Dilate) (effect == number_of shipped.Crop)
    (effect == number_of shipped.Translate)) (has is))

-- ---- the quotient

low_quotient : (w : ℤ) (q n : ℕ) → 0 < q → negsuc (2 * n) ≤ℤ w → negsuc n ≤ℤ int_div_euclid w (pos (2 * q))
low_quotient (pos a) q n some above = omega (arith, ints)
low_quotient (negsuc a) q n some above =
    let more : (n + 1) * 1 ≤ (n + 1) * q = mul-le-mul_left (n + 1) some in
    let few = div_below a (2 * q) (n + 1) (omega (arith, some)) (omega (arith, ints, above, more)) in
    omega (arith, ints, few)

-- a value that isn't below a least one, which isn't above 0, isn't divided to below it
divided_above : (q : ℕ) (v least : ℤ) → 0 < q → least ≤ℤ pos 0 → least ≤ℤ v → least ≤ℤ divided q v
divided_above q (pos n) least some low above = omega (arith, ints, low)
divided_above q (negsuc n) least some low above =
    let down = low_quotient ((pos 2 *ℤ negsuc n) +ℤ pos q) q n some (omega (arith, ints, some)) in
    omega (arith, ints, down, above)

at_least : (d least : ℤ) → least ≤ℤ d → int_max d least ≡ d
at_least d least h = grind (arith, ints, clamps)

number_by : (size : Bool) (def : ParamDef) (q : ℕ) (v : ℤ) → 0 < q → IsRanged size def → def.least ≤ℤ v
    → divided_from def.least q v ≡ cond size (int_max (divided q v) (pos 1)) (divided q v)
number_by true def q v some r above = ap (int_max (divided q v)) (r.least_size refl)
number_by false def q v some r above =
    at_least (divided q v) def.least (divided_above q v def.least some (r.least refl) above)

lowest : (def : ParamDef) (v : ℤ) → IsWithin def v → def.least ≤ℤ v
lowest def v h = grind (arith, ints)

keys_by : (f g : ℤ → ℤ) (def : ParamDef) (keys : List Key) → ((v : ℤ) → IsWithin def v → f v ≡ g v)
    → All (λ key. IsWithin def key.value) keys → map (with_value f) keys ≡ map (with_value g) keys
keys_by f g def [] same h = refl
keys_by f g def (key ∷ keys) same h =
    let P = λ (k : Key). IsWithin def k.value in
    let here : with_value f key ≡ with_value g key = ap (λ (v : ℤ). record key { value = v }) (same key.value (All-head P key keys h)) in
    ap (λ (k : Key). k ∷ map (with_value f) keys) here
    ∙ ap (λ (ks : List Key). with_value g key ∷ ks) (keys_by f g def keys same (All-tail P key keys h))

values_by : (f g : ℤ → ℤ) (p : Parameter) → ((v : ℤ) → IsWithin p.def v → f v ≡ g v) → IsSound p
    → with_values f p ≡ with_values g p
values_by f g p same s =
    ap (λ (v : ℤ). record p { plain = v; keys = map (with_value f) p.keys }) (same p.plain s.plain)
    ∙ ap (λ (ks : List Key). record p { plain = g p.plain; keys = ks }) (keys_by f g p.def p.keys same s.values)

-- what `Param::divide` makes of a length
divided_is : (effect place q : ℕ) (p : Parameter) → is_length effect place ≡ true → HasLength effect place p → 0 < q
    → IsSound p → with_values (divided_from p.def.least q) p ≡ with_values (scaled_number effect q) p
divided_is effect place q p is has some s =
    values_by (divided_from p.def.least q) (scaled_number effect q) p
    (λ v h. number_by (effect == number_of shipped.Checker) p.def q v some (ranged effect place p is has) (lowest p.def v h)) s

-- and so a length is what it makes of it
pub length_is : (effect place q : ℕ) (p : Parameter) → is_length effect place ≡ true → HasLength effect place p → 0 < q
    → IsSound p → with_values (divided_from p.def.least q) p ≡ scaled_param effect place q p
length_is effect place q p is has some s =
    divided_is effect place q p is has some s
    ∙ sym (ap (λ (b : Bool). cond b (with_values (scaled_number effect q) p) p) is)

-- ---- a scaled parameter

def_by : (b : Bool) (f : ℤ → ℤ) (p : Parameter) → (cond b (with_values f p) p).def ≡ p.def
def_by true f p = refl
def_by false f p = refl

pub def_stays : (effect place q : ℕ) (p : Parameter) → (scaled_param effect place q p).def ≡ p.def
def_stays effect place q p = def_by (is_length effect place) (scaled_number effect q) p

-- nor is one that isn't above a greatest one, which isn't below 0, divided to above it
divided_few : (q : ℕ) (v greatest : ℤ) → 0 < q → pos 0 ≤ℤ greatest → v ≤ℤ greatest → divided q v ≤ℤ greatest
divided_few q v (negsuc g) some up below = absurd (omega (arith, ints, up))
divided_few q (pos n) (pos g) some up below =
    let more : g * 1 ≤ g * q = mul-le-mul_left g some in
    let few = div_below (2 * n + q) (2 * q) (g + 1) (omega (arith, some)) (omega (arith, ints, below, more, some)) in
    omega (arith, ints, few)
divided_few q (negsuc n) (pos g) some up below =
    by ((pos 2 *ℤ negsuc n) +ℤ pos q) (omega (arith, ints))
  where
    by : (w : ℤ) → w ≤ℤ pos q → int_div_euclid w (pos (2 * q)) ≤ℤ pos g
    by (pos a) low =
        let few = div_below a (2 * q) 1 (omega (arith, some)) (omega (arith, ints, low, some)) in
        omega (arith, ints, few)
    by (negsuc a) low = omega (arith, ints)

highest : (def : ParamDef) (v : ℤ) → IsWithin def v → v ≤ℤ def.greatest
highest def v h = grind (arith, ints)

between : (def : ParamDef) (n : ℤ) → def.least ≤ℤ n → n ≤ℤ def.greatest → IsWithin def n
between def n low high = grind (arith, ints)

above_by : (d least v greatest : ℤ) → least ≤ℤ v → v ≤ℤ greatest → d ≤ℤ greatest
    → (least ≤ℤ int_max d least) × (int_max d least ≤ℤ greatest)
above_by d least v greatest low high few = (omega (arith, ints, clamps, low, high, few), omega (arith, ints, clamps, low, high, few))

number_within : (size : Bool) (def : ParamDef) (q : ℕ) (v : ℤ) → 0 < q → IsRanged size def → IsWithin def v
    → IsWithin def (cond size (int_max (divided q v) (pos 1)) (divided q v))
number_within size def q v some r h =
    let low = lowest def v h in
    let few = divided_few q v def.greatest some r.greatest (highest def v h) in
    let both = above_by (divided q v) def.least v def.greatest low (highest def v h) few in
    subst (IsWithin def) (number_by size def q v some r low) (between def (divided_from def.least q v) both.0 both.1)

frame_stays : (f : ℤ → ℤ) (keys : List Key) (i : ℕ) (d : Key) → (get_or (map (with_value f) keys) i d).frame ≡ (get_or keys i d).frame
frame_stays f [] i d = refl
frame_stays f (key ∷ keys) zero d = refl
frame_stays f (key ∷ keys) (suc i) d = frame_stays f keys i d

rising_stays : (f : ℤ → ℤ) (keys : List Key) → IsRising keys → IsRising (map (with_value f) keys)
rising_stays f keys rising = λ i j d low high.
    rw (frame_stays f keys i d, frame_stays f keys j d)
    (rising i j d low (subst (λ (n : ℕ). j < n) (length-map keys (with_value f)) high))

-- values that are made anew within the range
values_sound : (f : ℤ → ℤ) (p : Parameter) → ((v : ℤ) → IsWithin p.def v → IsWithin p.def (f v)) → IsSound p → IsSound (with_values f p)
values_sound f p keeps s =
    let P = λ (key : Key). IsWithin p.def key.value in
    record {
      rising = rising_stays f p.keys s.rising;
      frames = All-map (λ key. IsFrame key.frame) (with_value f) p.keys s.frames;
      values = All-map P (with_value f) p.keys
          (All-weaker P (λ key. IsWithin p.def (f key.value)) (λ key h. keeps key.value h) p.keys s.values);
      plain = keeps p.plain s.plain;
    }

pub sound_stays : (effect place q : ℕ) (p : Parameter) → HasLength effect place p → 0 < q → IsSound p
    → IsSound (scaled_param effect place q p)
sound_stays effect place q p has some s = elim (cases_Bool (is_length effect place)) [
  | inl is ↦
      subst (λ (b : Bool). IsSound (cond b (with_values (scaled_number effect q) p) p)) (sym is)
      (values_sound (scaled_number effect q) p
      (λ v h. number_within (effect == number_of shipped.Checker) p.def q v some (ranged effect place p is has) h) s)
  | inr other ↦ subst (λ (b : Bool). IsSound (cond b (with_values (scaled_number effect q) p) p)) (sym other) s
]

-- ---- the whole size

whole_by : (w v : ℤ) → w ≡ (pos 2 *ℤ v) +ℤ pos 1 → int_div_euclid w (pos 2) ≡ v
whole_by (pos a) v is = omega (arith, ints, is)
whole_by (negsuc a) v is = omega (arith, ints, is)

divided_whole : (v : ℤ) → divided 1 v ≡ v
divided_whole v = whole_by ((pos 2 *ℤ v) +ℤ pos 1) v refl

number_whole : (size : Bool) (def : ParamDef) (v : ℤ) → IsRanged size def → def.least ≤ℤ v
    → cond size (int_max (divided 1 v) (pos 1)) (divided 1 v) ≡ v
number_whole true def v r above =
    ap (λ (d : ℤ). int_max d (pos 1)) (divided_whole v)
    ∙ at_least v (pos 1) (subst (λ (l : ℤ). l ≤ℤ v) (r.least_size refl) above)
number_whole false def v r above = divided_whole v

same_values : (p : Parameter) → with_values (λ v. v) p ≡ p
same_values p = ap (λ (ks : List Key). record p { keys = ks }) (all_same p.keys)
  where
    all_same : (keys : List Key) → map (with_value (λ v. v)) keys ≡ keys
    all_same [] = refl
    all_same (key ∷ keys) = ap (λ (ks : List Key). key ∷ ks) (all_same keys)

pub param_whole : (effect place : ℕ) (p : Parameter) → HasLength effect place p → IsSound p → scaled_param effect place 1 p ≡ p
param_whole effect place p has s = elim (cases_Bool (is_length effect place)) [
  | inl is ↦
      ap (λ (b : Bool). cond b (with_values (scaled_number effect 1) p) p) is
      ∙ values_by (scaled_number effect 1) (λ v. v) p
      (λ v h. number_whole (effect == number_of shipped.Checker) p.def v (ranged effect place p is has) (lowest p.def v h)) s
      ∙ same_values p
  | inr other ↦ ap (λ (b : Bool). cond b (with_values (scaled_number effect 1) p) p) other
]
