use Rattle.std.proofs.Common.{◌≡◌, ◌≤◌, ◌<◌, ◌≢◌, ℕ, ◌+◌, ◌*◌, if◌then◌else◌, Fits, w64, refl, sym, ap, ◌∙◌, arith}
use Rattle.std.specs.Prelude.{◌==◌}
use Rattle.std.proofs.Math.Nat.{mul-le-mul_right}
use Rattle.std.proofs.lemmas.Nat.{mul-add-lt}
use Rattle.fx_pixel.specs.declared.Pixel.{Pixel}
use Rattle.fx_pixel.specs.declared.Pixel.TheVariants.{Rgba}
use Rattle.fx_pixel.specs.Pixel.{greatest}
use Rattle.fx_pam.specs.Reading.{Header, header_with, depth_of, sample_at, scaled, pixel_of}
use Rattle.fx_pam.proofs.raster.pixel_of.Goals as goal

-- how many samples there are at least
two_more : (d : ℕ) → 1 ≤ d → d ≢ 1 → 1 < d
two_more d some one = omega (arith, some, one)

three_more : (d : ℕ) → 1 ≤ d → d ≢ 1 → d ≢ 2 → 2 < d
three_more d some one two = omega (arith, some, one, two)

four_more : (d : ℕ) → 1 ≤ d → d ≢ 1 → d ≢ 2 → d ≢ 3 → 3 < d
four_more d some one two three = omega (arith, some, one, two, three)

-- the samples of a pixel are the row's
first_there : (w d c : ℕ) → c < w → 1 ≤ d → c * d < w * 1 * d
first_there w d c low some = omega (arith, mul-add-lt c d 0 w low (omega (arith, some)))

next_there : (w d c k : ℕ) → c < w → k < d → c * d + k < w * 1 * d
next_there w d c k low inside = omega (arith, mul-add-lt c d k w low inside)

-- and their places fit
first_fits : (w d c : ℕ) → w ≤ 8192 → d ≤ 4 → c < w → Fits w64 (c * d)
first_fits w d c wide few low = let low_place : c * d ≤ 8192 * d = mul-le-mul_right d (omega (arith, wide, low)) in record { fits = omega (arith, low_place, few) }

next_fits : (w d c k : ℕ) → w ≤ 8192 → d ≤ 4 → c < w → k < 4 → Fits w64 (c * d + k)
next_fits w d c k wide few low near = let low_place : c * d ≤ 8192 * d = mul-le-mul_right d (omega (arith, wide, low)) in record { fits = omega (arith, low_place, few, near) }

-- sample k of pixel c of a row, at its place in the row
first_place : (w c d : ℕ) → c * d ≡ (0 * w + c) * d + 0
first_place w c d = omega arith

next_place : (w c d k : ℕ) → c * d + k ≡ (0 * w + c) * d + k
next_place w c d k = omega arith

first_of_pixel : (h : Header) (c n : ℕ) → n ≡ scaled h (sample_at h (c * h.depth)) → n ≡ scaled h (sample_at h ((0 * h.width + c) * h.depth + 0))
first_of_pixel h c n is = is ∙ ap (λ i. scaled h (sample_at h i)) (first_place h.width c h.depth)

next_of_pixel : (h : Header) (c k n : ℕ) → n ≡ scaled h (sample_at h (c * h.depth + k)) → n ≡ scaled h (sample_at h ((0 * h.width + c) * h.depth + k))
next_of_pixel h c k n is = is ∙ ap (λ i. scaled h (sample_at h i)) (next_place h.width c h.depth k)

same_samples : {a b c d e f g h : ℕ} → a ≡ e → b ≡ f → c ≡ g → d ≡ h → Rgba a b c d ≡ Rgba e f g h
same_samples p q r s = cc

-- which pixel so many samples make
of_one : (d : ℕ) (w x y z : Pixel) → d ≡ 1 → (if d == 1 then w else if d == 2 then x else if d == 3 then y else z) ≡ w
of_one d w x y z is = rw is refl

of_two : (d : ℕ) (w x y z : Pixel) → d ≡ 2 → (if d == 1 then w else if d == 2 then x else if d == 3 then y else z) ≡ x
of_two d w x y z is = rw is refl

of_three : (d : ℕ) (w x y z : Pixel) → d ≡ 3 → (if d == 1 then w else if d == 2 then x else if d == 3 then y else z) ≡ y
of_three d w x y z is = rw is refl

of_four : (d : ℕ) (w x y z : Pixel) → 3 < d → d ≤ 4 → (if d == 1 then w else if d == 2 then x else if d == 3 then y else z) ≡ z
of_four d w x y z some few = let is : d ≡ 4 = omega (arith, some, few) in rw is refl

-- the pixel of a row, by its samples
module _ (h : Header) (c one : ℕ) (first : one ≡ scaled h (sample_at h (c * h.depth))) where
  made_of_one : (top : ℕ) → h.depth ≡ 1 → top ≡ greatest (depth_of h) → Rgba one one one top ≡ pixel_of h 0 c
  made_of_one top is most =
      let s = first_of_pixel h c one first in
      same_samples s s s most ∙ sym (of_one h.depth _ _ _ _ is)

  made_of_two : (two : ℕ) → h.depth ≡ 2 → two ≡ scaled h (sample_at h (c * h.depth + 1)) → Rgba one one one two ≡ pixel_of h 0 c
  made_of_two two is second =
      let s = first_of_pixel h c one first in
      same_samples s s s (next_of_pixel h c 1 two second) ∙ sym (of_two h.depth _ _ _ _ is)

  made_of_three : (two three top : ℕ) → h.depth ≡ 3 → two ≡ scaled h (sample_at h (c * h.depth + 1)) → three ≡ scaled h (sample_at h (c * h.depth + 2)) → top ≡ greatest (depth_of h) → Rgba one two three top ≡ pixel_of h 0 c
  made_of_three two three top is second third most =
      same_samples (first_of_pixel h c one first) (next_of_pixel h c 1 two second) (next_of_pixel h c 2 three third) most ∙ sym (of_three h.depth _ _ _ _ is)

  made_of_four : (two three four : ℕ) → 3 < h.depth → h.depth ≤ 4 → two ≡ scaled h (sample_at h (c * h.depth + 1)) → three ≡ scaled h (sample_at h (c * h.depth + 2)) → four ≡ scaled h (sample_at h (c * h.depth + 3)) → Rgba one two three four ≡ pixel_of h 0 c
  made_of_four two three four some few second third fourth =
      same_samples (first_of_pixel h c one first) (next_of_pixel h c 1 two second) (next_of_pixel h c 2 three third) (next_of_pixel h c 3 four fourth) ∙ sym (of_four h.depth _ _ _ _ some few)

pub overflow_mul-first : goal.overflow_mul-first
overflow_mul-first c = first_fits c.args.numbers.width c.args.numbers.depth c.args.c c.requires.whole.ranged.width.1 c.requires.whole.ranged.depth.1 c.requires.column

pub scaled-one-requires-clause-there : goal.scaled-one-requires-clause-there
scaled-one-requires-clause-there c = first_there c.args.numbers.width c.args.numbers.depth c.args.c c.requires.column c.requires.whole.ranged.depth.0

pub returns-then-numbers-eq1-clause-value : goal.returns-then-numbers-eq1-clause-value
returns-then-numbers-eq1-clause-value c =
    made_of_one (header_with c.args.numbers c.args.source.now) c.args.c c.scaled-one.result c.scaled-one.ensures.value c.greatest-greatest.result c.if-numbers-eq1.true (c.greatest-greatest.ensures ∙ ap greatest c.sample_depth.ensures)

pub overflow_add-first : goal.overflow_add-first
overflow_add-first c = next_fits c.args.numbers.width c.args.numbers.depth c.args.c 1 c.requires.whole.ranged.width.1 c.requires.whole.ranged.depth.1 c.requires.column (omega arith)

pub scaled-two-requires-clause-there : goal.scaled-two-requires-clause-there
scaled-two-requires-clause-there c =
    next_there c.args.numbers.width c.args.numbers.depth c.args.c 1 c.requires.column (two_more c.args.numbers.depth c.requires.whole.ranged.depth.0 c.if-numbers-eq1.false)

pub returns-then-numbers-eq2-clause-value : goal.returns-then-numbers-eq2-clause-value
returns-then-numbers-eq2-clause-value c =
    made_of_two (header_with c.args.numbers c.args.source.now) c.args.c c.scaled-one.result c.scaled-one.ensures.value c.scaled-two.result c.if-numbers-eq2.true c.scaled-two.ensures.value

pub overflow_add-first-2 : goal.overflow_add-first-2
overflow_add-first-2 c = next_fits c.args.numbers.width c.args.numbers.depth c.args.c 2 c.requires.whole.ranged.width.1 c.requires.whole.ranged.depth.1 c.requires.column (omega arith)

pub scaled-three-requires-clause-there : goal.scaled-three-requires-clause-there
scaled-three-requires-clause-there c =
    next_there c.args.numbers.width c.args.numbers.depth c.args.c 2 c.requires.column (three_more c.args.numbers.depth c.requires.whole.ranged.depth.0 c.if-numbers-eq1.false c.if-numbers-eq2.false)

pub overflow_add-first-else-numbers-eq3 : goal.overflow_add-first-else-numbers-eq3
overflow_add-first-else-numbers-eq3 c = next_fits c.args.numbers.width c.args.numbers.depth c.args.c 3 c.requires.whole.ranged.width.1 c.requires.whole.ranged.depth.1 c.requires.column (omega arith)

pub scaled-a-requires-clause-there : goal.scaled-a-requires-clause-there
scaled-a-requires-clause-there c =
    next_there c.args.numbers.width c.args.numbers.depth c.args.c 3 c.requires.column (four_more c.args.numbers.depth c.requires.whole.ranged.depth.0 c.if-numbers-eq1.false c.if-numbers-eq2.false c.if-numbers-eq3.false)

pub returns-then-numbers-eq3-clause-value : goal.returns-then-numbers-eq3-clause-value
returns-then-numbers-eq3-clause-value c =
    made_of_three (header_with c.args.numbers c.args.source.now) c.args.c c.scaled-one.result c.scaled-one.ensures.value c.scaled-two.result c.scaled-three.result c.greatest-greatest.result c.if-numbers-eq3.true c.scaled-two.ensures.value c.scaled-three.ensures.value (c.greatest-greatest.ensures ∙ ap greatest c.sample_depth.ensures)

pub returns-else-numbers-eq3-clause-value : goal.returns-else-numbers-eq3-clause-value
returns-else-numbers-eq3-clause-value c =
    made_of_four (header_with c.args.numbers c.args.source.now) c.args.c c.scaled-one.result c.scaled-one.ensures.value c.scaled-two.result c.scaled-three.result c.scaled-a.result
    (four_more c.args.numbers.depth c.requires.whole.ranged.depth.0 c.if-numbers-eq1.false c.if-numbers-eq2.false c.if-numbers-eq3.false) c.requires.whole.ranged.depth.1 c.scaled-two.ensures.value c.scaled-three.ensures.value c.scaled-a.ensures.value

pub returns-then-numbers-eq1-clause-depth : goal.returns-then-numbers-eq1-clause-depth
returns-then-numbers-eq1-clause-depth c =
    let one = c.scaled-one.ensures.bound in
    (one, one, one, omega (arith, c.greatest-greatest.ensures ∙ ap greatest c.sample_depth.ensures))

pub returns-then-numbers-eq2-clause-depth : goal.returns-then-numbers-eq2-clause-depth
returns-then-numbers-eq2-clause-depth c =
    let one = c.scaled-one.ensures.bound in
    (one, one, one, c.scaled-two.ensures.bound)

pub returns-then-numbers-eq3-clause-depth : goal.returns-then-numbers-eq3-clause-depth
returns-then-numbers-eq3-clause-depth c =
    (c.scaled-one.ensures.bound, c.scaled-two.ensures.bound, c.scaled-three.ensures.bound, omega (arith, c.greatest-greatest.ensures ∙ ap greatest c.sample_depth.ensures))

pub returns-else-numbers-eq3-clause-depth : goal.returns-else-numbers-eq3-clause-depth
returns-else-numbers-eq3-clause-depth c =
    (c.scaled-one.ensures.bound, c.scaled-two.ensures.bound, c.scaled-three.ensures.bound, c.scaled-a.ensures.bound)
