-- Divided values stay within their range.
use Rattle.std.proofs.Common.{◌≡◌, ◌≤◌, ◌<◌, ℕ, zero, suc, ◌+◌, ◌*◌, ◌/◌, ◌^◌, ℤ, pos, negsuc, ◌+ℤ◌, ◌*ℤ◌, ◌≤ℤ◌, ◌<ℤ◌, List, [], ◌∷◌, map, length, get_or, All, Fits, FitsSigned, w32, w64, lit<, refl, sym, ap, subst, arith}
use Rattle.std.specs.Int.{int_div_euclid, int_max, w128}
use Rattle.std.proofs.Math.Nat.{mul-le-mul_left}
use Rattle.std.proofs.lemmas.Int.{ints, clamps, fits_signed_from_abs, fits_signed_mul}
use Rattle.std.proofs.lemmas.List.{length-map}
use Rattle.std.proofs.lemmas.List.Elements.{All-map, All-weaker}
use Rattle.std.proofs.lemmas.Nat.{div_below}
use Rattle.fx_base.specs.Rect.{IsFrame}
use Rattle.fx_params.specs.declared.def.ParamDef.{ParamDef}
use Rattle.fx_params.specs.declared.key.Key.{Key}
use Rattle.fx_params.specs.Value.{IsWithin}
use Rattle.fx_params.specs.Parameter.{IsSound, Parameter, divided, divided_from, with_value, with_values}

small_quotient : (w : ℤ) (q : ℕ) → 0 < q → w ≤ℤ pos q → int_div_euclid w (pos (2 * q)) ≤ℤ pos 0
small_quotient (pos a) q some few =
    let low = div_below a (2 * q) 1 (omega (arith, some)) (omega (arith, ints, few, some)) in
    omega (arith, ints, low)
small_quotient (negsuc a) q some few = omega (arith, ints)

pub divided_few : (q : ℕ) (v g : ℤ) → 0 < q → v ≤ℤ g → pos 0 ≤ℤ g → divided q v ≤ℤ g
divided_few q (pos n) (pos g) some le up =
    let more : g * 1 ≤ g * q = mul-le-mul_left g some in
    let low = div_below (2 * n + q) (2 * q) (g + 1) (omega (arith, some)) (omega (arith, ints, le, more, some)) in
    omega (arith, ints, low)
divided_few q (negsuc n) (pos g) some le up =
    let none = small_quotient ((pos 2 *ℤ negsuc n) +ℤ pos q) q some (omega (arith, ints)) in
    omega (arith, ints, none)
divided_few q v (negsuc g) some le up = absurd (omega (arith, ints, up))

low_quotient : (w : ℤ) (q l : ℕ) → 0 < q → (pos 2 *ℤ negsuc l) ≤ℤ w → negsuc l ≤ℤ int_div_euclid w (pos (2 * q))
low_quotient (pos a) q l some low = omega (arith, ints)
low_quotient (negsuc a) q l some low =
    let more : suc l * 1 ≤ suc l * q = mul-le-mul_left (suc l) some in
    let below = div_below a (2 * q) (suc l) (omega (arith, some)) (omega (arith, ints, low, more)) in
    omega (arith, ints, below)

pub divided_low : (q : ℕ) (v : ℤ) (l : ℕ) → 0 < q → negsuc l ≤ℤ v → negsuc l ≤ℤ divided q v
divided_low q v l some le = low_quotient ((pos 2 *ℤ v) +ℤ pos q) q l some (omega (arith, ints))

-- ---- the code's wide numbers fit

pub twice_fits : (v : ℤ) → FitsSigned w64 v → FitsSigned w128 (pos 2 *ℤ v)
twice_fits v fits = fits_signed_mul w128 (pos 2) v 2 (2 ^ 64) (omega (arith, ints)) (omega (arith, ints)) (lit< tt)

pub sum_fits : (v : ℤ) (q : ℕ) → FitsSigned w64 v → Fits w32 q → FitsSigned w128 ((pos 2 *ℤ v) +ℤ pos q)
sum_fits v q fits few = fits_signed_from_abs w128 _ (omega (arith, ints))

clamped : (def : ParamDef) (d v : ℤ) → IsWithin def v → d ≤ℤ def.greatest → IsWithin def (int_max d def.least)
clamped def d v h few = grind (arith, ints, clamps)

highest : (def : ParamDef) (v : ℤ) → IsWithin def v → v ≤ℤ def.greatest
highest def v h = grind (arith, ints)

divided_within : (def : ParamDef) (q : ℕ) (v : ℤ) → 0 < q → pos 0 ≤ℤ def.greatest → IsWithin def v → IsWithin def (divided_from def.least q v)
divided_within def q v some up h = clamped def (divided q v) v h (divided_few q v def.greatest some (highest def v h) up)

frame_stays : (f : ℤ → ℤ) (keys : List Key) (i : ℕ) (d : Key) → (get_or (map (with_value f) keys) i d).frame ≡ (get_or keys i d).frame
frame_stays f [] i d = refl
frame_stays f (key ∷ keys) zero d = refl
frame_stays f (key ∷ keys) (suc i) d = frame_stays f keys i d

pub divided_sound : (p : Parameter) (q : ℕ) → 0 < q → pos 0 ≤ℤ p.def.greatest → IsSound p → IsSound (with_values (divided_from p.def.least q) p)
divided_sound p q some up s =
    let f = divided_from p.def.least q in
    record {
      rising = λ i j d low high.
          rw (frame_stays f p.keys i d, frame_stays f p.keys j d)
          (s.rising i j d low (subst (λ (n : ℕ). j < n) (length-map p.keys (with_value f)) high));
      frames = All-map (λ key. IsFrame key.frame) (with_value f) p.keys s.frames;
      values = All-map (λ key. IsWithin p.def key.value) (with_value f) p.keys
          (All-weaker (λ key. IsWithin p.def key.value) (λ key. IsWithin p.def (f key.value)) (λ key h. divided_within p.def q key.value some up h) p.keys s.values);
      plain = divided_within p.def q p.plain some up s.plain;
    }
