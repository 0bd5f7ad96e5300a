-- Rows of bytes into which a run of pixels was copied.
use Rattle.std.proofs.Common.{◌≡◌, ◌≢◌, ◌≤◌, ◌<◌, ◌⊎◌, inl, inr, ℕ, ◌+◌, ◌*◌, ℤ, pos, ◌+ℤ◌, ◌≤ℤ◌, ◌<ℤ◌, Bool, true, false, ◌&&◌, if◌then◌else◌, List, [], ◌∷◌, zero, suc, length, drop, refl, sym, ap, rules, arith, ◌∙◌, w64, to_z, of_z, Fits, FitsSigned, get_or, map}
use Rattle.std.specs.Prelude.{slice_index}
use Rattle.std.specs.Int.{int_gap}
use Rattle.std.proofs.lemmas.Int.{ints, to_z-of_z, by_lt_z}
use Rattle.std.proofs.lemmas.List.{places, drop_more}
use Rattle.std.proofs.Math.Nat.{mul-le-mul_left, mul-le-mul_right}
use Rattle.fx_base.specs.Bounds.{Bounds, IsRect}
use Rattle.fx_base.specs.Rect.{IsWithin, within, columns}
use Rattle.fx_pixel.specs.declared.Depth.{Depth}
use Rattle.fx_pixel.specs.declared.Depth.TheVariants.{Byte, Short}
use Rattle.fx_pixel.specs.declared.Components.TheVariants as components
use Rattle.fx_pixel.specs.declared.Pixel.{Pixel}
use Rattle.fx_image.proofs.ImageLaws.{gap_is, gap_below, gap_up_to, gap_split, place_from, place_to, inside_from}
use Rattle.std.specs.Int.Signed.{le_z, lt_z}
use Rattle.fx_effect.specs.Tap.{Tap}
use Rattle.fx_effect.specs.Given.{GivenPiece, holds_tap, piece_pixel, first_pixel, any_holds, pixel_over}
use Rattle.fx_pixel.specs.Pixel.{convert, zero as zero_pixel}
use Rattle.fx_effect.specs.declared.piece.Placed.{Placed}
use Rattle.fx_effect.proofs.PieceLaws.{same_pixel}
use Rattle.fx_effect.specs.Placed.{IsBothRow, given_piece}
use Rattle.fx_pixel.specs.declared.Components.{Components}
use Rattle.fx_image.specs.Stored.{pixel_size, pixel_in}
use Rattle.fx_image.proofs.RowsLaws.{rows_apart}
use Rattle.fx_image.proofs.PixelLaws.{pixel_components}

size_some : (d : Depth) (c : Components) → 0 < pixel_size d c
size_some Byte components.Rgba = omega arith
size_some Short components.Rgba = omega arith
size_some Byte components.Alpha = omega arith
size_some Short components.Alpha = omega arith

pub few_pixels : (d : Depth) (c : Components) (n long : ℕ) → n * pixel_size d c ≤ long → n ≤ long
few_pixels d c n long room = omega (arith, mul-le-mul_left n (size_some d c), room)

-- ---- a piece that is painted over a row

second_of : (a b : Bool) → a && b ≡ true → b ≡ true
second_of true b h = h
second_of false b h = absurd cc

-- the places of both
abbrev pub AreBoth : Bounds → Bounds → Bounds → Type 0
AreBoth have rect both = (x y : ℤ) → within both x y ≡ (within have x y && within rect x y)

first_of : (a b : Bool) → a && b ≡ true → a ≡ true
first_of true b h = refl
first_of false b h = absurd cc

both_within : (have rect both : Bounds) → AreBoth have rect both → IsWithin both rect
both_within have rect both is x y inside = second_of (within have x y) (within rect x y) (sym (is x y) ∙ inside)

both_within_have : (have rect both : Bounds) → AreBoth have rect both → IsWithin both have
both_within_have have rect both is x y inside = first_of (within have x y) (within rect x y) (sym (is x y) ∙ inside)

-- the row of what both have
pub both_row : (have rect both : Bounds) (y : ℤ) → AreBoth have rect both → IsRect both → both.y1 ≤ℤ y → y <ℤ both.y2 → IsBothRow have rect both y
both_row have rect both y are is above below =
    let there = inside_from both rect y is (both_within have rect both are) above below in
    let covers = inside_from both have y is (both_within_have have rect both are) above below in
    record {
      places = are;
      covers = record { left = covers.left; wide = omega (arith, ints, covers.wide); right = covers.right; bottom = covers.above; top = covers.below };
      left = there.left;
      wide = there.wide;
      right = there.right;
      bottom = above;
      top = below;
    }

have_is : (a b c : Bool) → c ≡ (a && b) → b ≡ true → c ≡ a
have_is true b c e h = e ∙ h
have_is false b c e h = e

in_have : (have rect both : Bounds) (x y : ℤ) → AreBoth have rect both → within rect x y ≡ true → within both x y ≡ within have x y
in_have have rect both x y is inside = have_is (within have x y) (within rect x y) (within both x y) (is x y) inside

no_row : (r : Bounds) (x y : ℤ) → (y <ℤ r.y1) ⊎ (r.y2 ≤ℤ y) → within r x y ≡ false
no_row r x y (inl low) = grind (arith, ints)
no_row r x y (inr high) = grind (arith, ints)

pub row_missed : {A : Type 0} (have rect both : Bounds) (x y : ℤ) (p q : A) → AreBoth have rect both → within rect x y ≡ true → (y <ℤ both.y1) ⊎ (both.y2 ≤ℤ y) → q ≡ (if within have x y then p else q)
row_missed have rect both x y p q is inside out = let none : within have x y ≡ false = sym (in_have have rect both x y is inside) ∙ no_row both x y out in rw none refl

module _ (d : Depth) (c : Components) (have rect both : Bounds) (y : ℤ) (old new : List ℕ) (f : ℤ → Pixel) (is : AreBoth have rect both) (left_of : rect.x1 ≤ℤ both.x1) (wide_of : both.x1 <ℤ both.x2) (above : both.y1 ≤ℤ y) (below : y <ℤ both.y2)
    (painted : (i : ℕ) → i < columns both → pixel_in d c new (int_gap rect.x1 both.x1 + i) ≡ f (both.x1 +ℤ pos i))
    (others : (j : ℕ) → (j < int_gap rect.x1 both.x1) ⊎ (int_gap rect.x1 both.x1 + columns both ≤ j) → pixel_in d c new j ≡ pixel_in d c old j) where
  here : (x : ℤ) → both.x1 ≤ℤ x → x <ℤ both.x2 → pixel_in d c new (int_gap rect.x1 x) ≡ f x
  here x left right =
      ap (pixel_in d c new) (gap_split rect.x1 both.x1 x left_of left) ∙ painted (int_gap both.x1 x) (gap_below both.x1 x both.x2 left right) ∙ ap f (gap_is both.x1 x left)

  behind_of : (x : ℤ) → both.x2 ≤ℤ x → int_gap rect.x1 both.x1 + columns both ≤ int_gap rect.x1 x
  behind_of x right =
      let wide : both.x1 ≤ℤ both.x2 = omega (arith, ints, wide_of) in
      let far : rect.x1 ≤ℤ both.x2 = omega (arith, ints, left_of, wide_of) in
      omega (arith, gap_split rect.x1 both.x1 both.x2 left_of wide, gap_up_to rect.x1 both.x2 x far right)

  beside : (x : ℤ) → rect.x1 ≤ℤ x → within both x y ≡ false → pixel_in d c new (int_gap rect.x1 x) ≡ pixel_in d c old (int_gap rect.x1 x)
  beside x from out =
      by_lt_z x both.x1
      (λ low. others (int_gap rect.x1 x) (inl (gap_below rect.x1 x both.x1 from low)))
      (λ left. by_lt_z x both.x2
      (λ low. absurd (no_both (place_to both x y left low above below) out))
      (λ right. others (int_gap rect.x1 x) (inr (behind_of x right))))
    where
      no_both : {b : Bool} → b ≡ true → b ≡ false → ⊥
      no_both p q = absurd cc

  pub row_painted : (x : ℤ) → within rect x y ≡ true → pixel_in d c new (int_gap rect.x1 x) ≡ (if within have x y then f x else pixel_in d c old (int_gap rect.x1 x))
  row_painted x inside = go (within have x y) refl
    where
      go : (b : Bool) → within have x y ≡ b → pixel_in d c new (int_gap rect.x1 x) ≡ (if within have x y then f x else pixel_in d c old (int_gap rect.x1 x))
      go true has = let place = place_from both x y (in_have have rect both x y is inside ∙ has) in rw has (here x place.left place.right)
      go false has = rw has (beside x (place_from rect x y inside).left (in_have have rect both x y is inside ∙ has))

pub run_room : (d : Depth) (c : Components) (first count i long : ℕ) → (first + count) * pixel_size d c ≤ long → i < count → (first + i) * pixel_size d c + pixel_size d c ≤ long
run_room d c first count i long room low = let next : first + i < first + count = omega arith in omega (arith, rows_apart (first + i) (first + count) (pixel_size d c) next, room)

-- what the two ways of painting need
pub both_room : (d : Depth) (c : Components) (rect both : Bounds) (long : ℕ) → rect.x1 ≤ℤ both.x1 → both.x1 <ℤ both.x2 → both.x2 ≤ℤ rect.x2 → long ≡ columns rect * pixel_size d c → (int_gap rect.x1 both.x1 + columns both) * pixel_size d c ≤ long
both_room d c rect both long left wide right is =
    let w : both.x1 ≤ℤ both.x2 = omega (arith, ints, wide) in
    let up : rect.x1 ≤ℤ both.x2 = omega (arith, ints, left, wide) in
    let sum : int_gap rect.x1 both.x1 + columns both ≤ columns rect = omega (arith, gap_split rect.x1 both.x1 both.x2 left w, gap_up_to rect.x1 both.x2 rect.x2 up right) in
    omega (arith, mul-le-mul_right (pixel_size d c) sum, is)

pub run_shown : (d : Depth) (c : Components) (both : Bounds) (y : ℤ) (f : ℤ → ℤ → Pixel) (bytes : List ℕ) (i : ℕ) → both.x1 <ℤ both.x2 → both.y1 ≤ℤ y → y <ℤ both.y2 → ((x : ℤ) → within both x y ≡ true → pixel_in d c bytes (int_gap both.x1 x) ≡ f x y) → i < columns both → pixel_in d c bytes i ≡ f (both.x1 +ℤ pos i) y
run_shown d c both y f bytes i wide above below shows low =
    let whole = gap_is both.x1 both.x2 (omega (arith, ints, wide)) in
    let on = gap_is both.x1 (both.x1 +ℤ pos i) (omega (arith, ints)) in
    let place : i ≡ int_gap both.x1 (both.x1 +ℤ pos i) = omega (arith, ints, on) in
    ap (pixel_in d c bytes) place ∙ shows (both.x1 +ℤ pos i) (place_to both (both.x1 +ℤ pos i) y (omega (arith, ints)) (omega (arith, ints, whole)) above below)

pub few_fit : (first count i long : ℕ) → first + count ≤ long → i < count → long < 18446744073709551616 → Fits w64 (first + i)
few_fit first count i long few low fits = let small : first + i < 18446744073709551616 = omega arith in search rules

pub are_both : (r have rect both : Bounds) → AreBoth r rect both → r ≡ have → AreBoth have rect both
are_both r have rect both places same x y = places x y ∙ ap (λ b. within b x y && within rect x y) same

pub from_test_low : (a b y : ℤ) → FitsSigned w64 a → FitsSigned w64 y → a ≡ b → lt_z (to_z w64 (of_z w64 y)) (to_z w64 (of_z w64 a)) ≡ false → b ≤ℤ y
from_test_low a b y fa fy is test = let p = to_z-of_z w64 a fa in let q = to_z-of_z w64 y fy in let t = rw (p, q, is) at test in le_from y b t
  where
    le_from : (y b : ℤ) → lt_z y b ≡ false → b ≤ℤ y
    le_from y b t = grind (arith, ints)

pub from_test_high : (a b y : ℤ) → FitsSigned w64 a → FitsSigned w64 y → a ≡ b → le_z (to_z w64 (of_z w64 a)) (to_z w64 (of_z w64 y)) ≡ false → y <ℤ b
from_test_high a b y fa fy is test = let p = to_z-of_z w64 a fa in let q = to_z-of_z w64 y fy in let t = rw (p, q, is) at test in lt_from y b t
  where
    lt_from : (y b : ℤ) → le_z b y ≡ false → y <ℤ b
    lt_from y b t = grind (arith, ints)

pub to_test_low : (a b y : ℤ) → FitsSigned w64 a → FitsSigned w64 y → a ≡ b → lt_z (to_z w64 (of_z w64 y)) (to_z w64 (of_z w64 a)) ≡ true → y <ℤ b
to_test_low a b y fa fy is test = let p = to_z-of_z w64 a fa in let q = to_z-of_z w64 y fy in let t = rw (p, q, is) at test in lt_from y b t
  where
    lt_from : (y b : ℤ) → lt_z y b ≡ true → y <ℤ b
    lt_from y b t = grind (arith, ints)

pub to_test_high : (a b y : ℤ) → FitsSigned w64 a → FitsSigned w64 y → a ≡ b → le_z (to_z w64 (of_z w64 a)) (to_z w64 (of_z w64 y)) ≡ true → b ≤ℤ y
to_test_high a b y fa fy is test = let p = to_z-of_z w64 a fa in let q = to_z-of_z w64 y fy in let t = rw (p, q, is) at test in le_from y b t
  where
    le_from : (y b : ℤ) → le_z b y ≡ true → b ≤ℤ y
    le_from y b t = grind (arith, ints)

-- one piece more, before those that were painted
pub painted_first : (depth : Depth) (c : Components) (pieces : List Placed) (i : ℕ) (p : Placed) (t : Tap) (new old was : Pixel) → i < length pieces → p ≡ get_or pieces i p → old ≡ pixel_over depth c (map given_piece (drop (i + 1) pieces)) t was
    → new ≡ (if holds_tap (given_piece p) t then piece_pixel depth c (given_piece p) t.x t.y else old) → new ≡ pixel_over depth c (map given_piece (drop i pieces)) t was
painted_first depth c pieces i p t new old was low e before painted = rw (drop_more pieces i p low, ← e, ← before) painted

-- what was there is not seen where a piece has the place
pub over_held : (depth : Depth) (c : Components) (pieces : List GivenPiece) (t : Tap) (was : Pixel) → any_holds pieces t ≡ true → pixel_over depth c pieces t was ≡ first_pixel depth c pieces t
over_held depth c [] t was held = absurd cc
over_held depth c (s ∷ pieces) t was held = go (holds_tap s t) refl (over_held depth c pieces t was)
  where
    go : (b : Bool) → holds_tap s t ≡ b → (any_holds pieces t ≡ true → pixel_over depth c pieces t was ≡ first_pixel depth c pieces t) → pixel_over depth c (s ∷ pieces) t was ≡ first_pixel depth c (s ∷ pieces) t
    go true has rest = rw has refl
    go false has rest = rw has (rest (rw has at held))

-- over nothing there is the first piece's pixel, or zero
pub over_zero : (depth : Depth) (c : Components) (pieces : List GivenPiece) (t : Tap) → pixel_over depth c pieces t (zero_pixel c) ≡ first_pixel depth c pieces t
over_zero depth c [] t = refl
over_zero depth c (s ∷ pieces) t = rw (over_zero depth c pieces t) refl

zero_short : (bytes : List ℕ) → ((k : ℕ) → slice_index bytes k ≡ 0) → (i j : ℕ) → 256 * slice_index bytes i + slice_index bytes j ≡ 0
zero_short bytes nil i j = omega (arith, nil i, nil j)

-- bytes that are zero show zero
pub cleared : (d : Depth) (c : Components) (bytes : List ℕ) (i : ℕ) → ((k : ℕ) → slice_index bytes k ≡ 0) → pixel_in d c bytes i ≡ zero_pixel c
cleared Byte components.Rgba bytes i nil = rw (nil (4 * i), nil (4 * i + 1), nil (4 * i + 2), nil (4 * i + 3)) refl
cleared Byte components.Alpha bytes i nil = rw (nil i) refl
cleared Short components.Rgba bytes i nil =
    rw (zero_short bytes nil (2 * (4 * i)) (2 * (4 * i) + 1), zero_short bytes nil (2 * (4 * i + 1)) (2 * (4 * i + 1) + 1), zero_short bytes nil (2 * (4 * i + 2)) (2 * (4 * i + 2) + 1), zero_short bytes nil (2 * (4 * i + 3)) (2 * (4 * i + 3) + 1)) refl
cleared Short components.Alpha bytes i nil = rw (zero_short bytes nil (2 * i) (2 * i + 1)) refl

-- what lies left of a column that is reached
pub before_reach : (right reach x : ℤ) → le_z right reach ≡ true → x <ℤ right → x <ℤ reach
before_reach right reach x is low = grind (arith, ints)

-- a piece of the list that has the place is found
pub any_here : (pieces : List Placed) (i : ℕ) (p : Placed) (t : Tap) → i < length pieces → p ≡ get_or pieces i p → holds_tap (given_piece p) t ≡ true → any_holds (map given_piece pieces) t ≡ true
any_here [] i p t low e has = absurd (omega (arith, low))
any_here (q ∷ pieces) zero p t low e has = rw (← e, has) refl
any_here (q ∷ pieces) (suc i) p t low e has = go (holds_tap (given_piece q) t) (any_here pieces i p t (omega (arith, low)) e has)
  where
    go : (b : Bool) → any_holds (map given_piece pieces) t ≡ true → (if b then true else any_holds (map given_piece pieces) t) ≡ true
    go true rest = refl
    go false rest = rest

-- a pixel beside a run is none of the run
pub beside_run : (first count i j : ℕ) → i < count → (j < first) ⊎ (first + count ≤ j) → j ≢ first + i
beside_run first count i j low (inl before) e = absurd (omega arith)
beside_run first count i j low (inr behind) e = absurd (omega arith)

-- a run from which nothing is converted
pub run_kept : (d : Depth) (c : Components) (from : Depth) (seen : Components) (bytes : List ℕ) (i : ℕ) → from ≡ d → seen ≡ c
    → convert from d c (pixel_in from seen bytes i) ≡ pixel_in d c bytes i
run_kept d c from seen bytes i deep samples =
    rw (deep, samples) (ap (λ k. convert d d k (pixel_in d c bytes i)) (sym (pixel_components d c bytes i)) ∙ same_pixel d (pixel_in d c bytes i))
