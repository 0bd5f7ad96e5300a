-- An image all of whose pixels were written, and how large it is.
use Rattle.std.proofs.Common.{◌≡◌, ◌≤◌, ◌<◌, ◌*◌, ℕ, pos, negsuc, arith, ◌≤ℤ◌, ℤ, ◌∙◌, refl, ap, sym, inl, inr, true, false}
use Rattle.std.specs.Int.{int_gap}
use Rattle.std.proofs.Math.Nat.{mul-le-mul_left, mul-le-mul_right}
use Rattle.std.proofs.lemmas.Bool.{cases_Bool}
use Rattle.std.proofs.lemmas.Int.{ints}
use Rattle.fx_base.specs.Bounds.{Bounds}
use Rattle.fx_base.specs.Rect.{rect_of, within}
use Rattle.fx_pixel.specs.declared.Components.{Components}
use Rattle.fx_pixel.specs.Pixel.{zero}
use Rattle.fx_image.specs.Image.{Image, SameImage, pixel_at}
use Rattle.fx_image.specs.Stored.{Stored, image_of}
use Rattle.fx_proxy.specs.Reduced.{HasBlocks, reduced, reduced_pixel, reduced_rect}

pub made_image : (old new : Stored) (q : ℕ) (image : Image) → HasBlocks q image old new → old.rect ≡ reduced_rect q image.rect
    → old.depth ≡ image.depth → old.components ≡ image.components → SameImage (image_of new) (reduced q image)
made_image old new q image has rect depth components =
    record {
      rect = has.frame.rect ∙ rect;
      depth = has.frame.depth ∙ depth;
      components = has.frame.components ∙ components;
      pixels = λ x y. at x y;
    }
  where
    at : (x y : ℤ) → pixel_at (image_of new) x y ≡ pixel_at (reduced q image) x y
    at x y = elim (cases_Bool (within (reduced_rect q image.rect) x y)) [
      | inl there ↦
          let here : within old.rect x y ≡ true = ap (λ (b : Bounds). within b x y) rect ∙ there in
          let right : pixel_at (reduced q image) x y ≡ reduced_pixel q image x y = rw there refl in
          has.pixels x y here ∙ sym right
      | inr gone ↦
          let out : within new.rect x y ≡ false = ap (λ (b : Bounds). within b x y) (has.frame.rect ∙ rect) ∙ gone in
          let left : pixel_at (image_of new) x y ≡ zero new.components = rw out refl in
          let right : pixel_at (reduced q image) x y ≡ zero image.components = rw gone refl in
          left ∙ ap (λ (k : Components). zero k) (has.frame.components ∙ components) ∙ sym right
    ]

pub square_some : (q : ℕ) → 1 ≤ q → 0 < q * q
square_some q some = let more : q * 1 ≤ q * q = mul-le-mul_left q some in omega (arith, some, more)

-- no more bytes than the larger image
pub fewer_bytes : (w h s x y n : ℕ) → x ≤ w → y ≤ h → h * (w * s) ≤ n → y * (x * s) ≤ n
fewer_bytes w h s x y n narrow low few =
    let row : x * s ≤ w * s = mul-le-mul_right s narrow in
    let line : y * (x * s) ≤ y * (w * s) = mul-le-mul_left y row in
    let all : y * (w * s) ≤ h * (w * s) = mul-le-mul_right (w * s) low in
    omega (arith, line, all, few)

pub row_few : (w h s n : ℕ) → 1 ≤ h → h * (w * s) ≤ n → w * s ≤ n
row_few w h s n some few =
    let one : 1 * (w * s) ≤ h * (w * s) = mul-le-mul_right (w * s) some in
    omega (arith, one, few)

abbrev pub corner_rect : ℕ → ℕ → Bounds
corner_rect w h = record { x1 = pos 0; y1 = pos 0; x2 = pos w; y2 = pos h }

pub from_corner : (x y u v : ℤ) (w h : ℕ) → x ≡ pos 0 → y ≡ pos 0 → u ≡ pos w → v ≡ pos h → 1 ≤ w → 1 ≤ h
    → rect_of x y u v ≡ corner_rect w h
from_corner x y u v w h a b c d wide high = rw (a, b, c, d) plain
  where
    plain : rect_of (pos 0) (pos 0) (pos w) (pos h) ≡ corner_rect w h
    plain = grind (arith, ints, wide, high)

-- a side from 0 that is near has few columns
pub side_few : (a b : ℤ) → a ≡ pos 0 → b ≤ℤ pos 1073741824 → int_gap a b ≤ 1073741824
side_few a (pos b) at near = rw at (omega (arith, ints, near))
side_few a (negsuc b) at near = rw at (omega (arith, ints))
