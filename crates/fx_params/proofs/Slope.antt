-- The way from one key to the next stays between their values.
use Rattle.std.proofs.Common.{◌≡◌, ℕ, zero, suc, ◌+◌, ◌*◌, ◌/◌, ◌<◌, ◌≤◌, ℤ, pos, negsuc, ◌+ℤ◌, ◌-ℤ◌, ◌*ℤ◌, ◌≤ℤ◌, ◌<ℤ◌, FitsSigned, to_z, of_z, refl, ap, arith}
use Rattle.std.specs.Int.{int_min, int_max, int_div_euclid, w128}
use Rattle.std.proofs.Math.Nat.{div-le_of_le-mul}
use Rattle.std.proofs.lemmas.Int.{ints, clamps, to_z-of_z}
use Rattle.std.proofs.lemmas.Nat.{mul-le, div_below}
use Rattle.fx_params.specs.declared.key.Key.{Key}
use Rattle.fx_params.specs.Parameter.{between}

-- a part of n is at most n
part_le : (n d w : ℕ) → d ≤ w → (n * d) / w ≤ n
part_le n d w le = div-le_of_le-mul w (omega (arith, mul-le d n w n le (omega arith)))

-- a part of n + 1, less one unit, is at most n
fall_le : (n d w m : ℕ) → d < w → suc m ≡ suc n * d → m / w ≤ n
fall_le n d w m lt e =
    let below : m < suc n * w = omega (arith, e, mul-le d (suc n) w (suc n) (omega arith) (omega arith)) in
    omega (arith, div_below m w (suc n) (omega arith) below)

-- the floor of a falling part
fall_is : (n d w : ℕ) → int_div_euclid (negsuc n *ℤ pos (suc d)) (pos w) ≡ negsuc ((d + n * suc d) / w)
fall_is n d w = let e : suc n * suc d ≡ suc (d + n * suc d) = omega arith in rw e refl

no_fall : (n w : ℕ) → int_div_euclid (negsuc n *ℤ pos 0) (pos w) ≡ pos (0 / w)
no_fall n w = let e : suc n * 0 ≡ 0 = omega arith in rw e refl

-- the floor of a part of a rise lies between nothing and the whole rise
share_low : (rise part whole : ℤ) → pos 0 ≤ℤ part → part <ℤ whole → int_min (pos 0) rise ≤ℤ int_div_euclid (rise *ℤ part) whole
share_low (pos n) (pos d) (pos w) from to = omega (arith, ints, clamps)
share_low (negsuc n) (pos zero) (pos w) from to = rw no_fall (omega (arith, ints, clamps))
share_low (negsuc n) (pos (suc d)) (pos w) from to = rw fall_is (omega (arith, ints, clamps, fall_le n (suc d) w (d + n * suc d) (omega (arith, ints)) (omega arith)))
share_low rise (negsuc d) whole from to = absurd (omega (arith, ints))
share_low rise (pos d) (negsuc w) from to = absurd (omega (arith, ints))

share_high : (rise part whole : ℤ) → pos 0 ≤ℤ part → part <ℤ whole → int_div_euclid (rise *ℤ part) whole ≤ℤ int_max (pos 0) rise
share_high (pos n) (pos d) (pos w) from to = omega (arith, ints, clamps, part_le n d w (omega (arith, ints)))
share_high (negsuc n) (pos zero) (pos w) from to = rw no_fall (omega (arith, ints, part_le 0 0 w (omega arith)))
share_high (negsuc n) (pos (suc d)) (pos w) from to = rw fall_is (omega (arith, ints, clamps))
share_high rise (negsuc d) whole from to = absurd (omega (arith, ints))
share_high rise (pos d) (negsuc w) from to = absurd (omega (arith, ints))

-- what rises from a by at most the way to b stays between a and b
risen_low : (a b risen : ℤ) → int_min (pos 0) (b -ℤ a) ≤ℤ risen → int_min a b ≤ℤ (a +ℤ risen)
risen_low a b risen low = omega (arith, ints, clamps)

risen_high : (a b risen : ℤ) → risen ≤ℤ int_max (pos 0) (b -ℤ a) → (a +ℤ risen) ≤ℤ int_max a b
risen_high a b risen high = omega (arith, ints, clamps)

pub between_low : (a b : Key) (t : ℤ) → a.frame ≤ℤ t → t <ℤ b.frame → int_min a.value b.value ≤ℤ between a b t
between_low a b t from to = risen_low a.value b.value _ (share_low (b.value -ℤ a.value) (t -ℤ a.frame) (b.frame -ℤ a.frame) (omega (arith, ints)) (omega (arith, ints)))

pub between_high : (a b : Key) (t : ℤ) → a.frame ≤ℤ t → t <ℤ b.frame → between a b t ≤ℤ int_max a.value b.value
between_high a b t from to = risen_high a.value b.value _ (share_high (b.value -ℤ a.value) (t -ℤ a.frame) (b.frame -ℤ a.frame) (omega (arith, ints)) (omega (arith, ints)))

-- what the code's three distances and their share are
pub risen_is : (a b : Key) (t rise part whole risen : ℤ) → FitsSigned w128 rise → FitsSigned w128 part → FitsSigned w128 whole → rise ≡ b.value -ℤ a.value → part ≡ t -ℤ a.frame → whole ≡ b.frame -ℤ a.frame → risen ≡ int_div_euclid (to_z w128 (of_z w128 rise) *ℤ to_z w128 (of_z w128 part)) (to_z w128 (of_z w128 whole)) → a.value +ℤ risen ≡ between a b t
risen_is a b t rise part whole risen f g h rise_is part_is whole_is is =
    let plain = simp to_z-of_z at is in
    ap (λ r. a.value +ℤ r) (rw (rise_is, part_is, whole_is) at plain)
