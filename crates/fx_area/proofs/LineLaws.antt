-- Rows of one line.
use Rattle.std.proofs.Common.{◌≡◌, ◌<◌, ◌∙◌, ℕ, ◌*◌, ℤ, pos, ◌+ℤ◌, ◌<ℤ◌, List, length, ap, sym, arith}
use Rattle.std.specs.Int.{int_gap}
use Rattle.std.proofs.lemmas.Int.{ints}
use Rattle.fx_base.specs.Bounds.{Bounds}
use Rattle.fx_base.specs.Rect.{rect_of}
use Rattle.fx_base.proofs.RectLaws.{gap_is}
use Rattle.fx_pixel.specs.declared.Depth.{Depth}
use Rattle.fx_pixel.specs.declared.Components.{Components}
use Rattle.fx_pixel.specs.declared.Pixel.{Pixel}
use Rattle.fx_image.specs.Stored.{pixel_size, pixel_in}
use Rattle.fx_image.proofs.ImageLaws.{place_to}
use Rattle.fx_effect.specs.Rows.{IsLine, ShowsRow}

-- the rectangle of n pixels from (x, y) on
abbrev pub line_rect : ℤ → ℤ → ℕ → Bounds
line_rect x y n = record { x1 = x; y1 = y; x2 = x +ℤ pos n; y2 = y +ℤ pos 1 }

rect_of-proper : (x1 y1 x2 y2 : ℤ) → x1 <ℤ x2 → y1 <ℤ y2 → rect_of x1 y1 x2 y2 ≡ record { x1 = x1; y1 = y1; x2 = x2; y2 = y2 }
rect_of-proper x1 y1 x2 y2 wide high = grind (arith, ints)

pub line_is : (r : Bounds) (x1 y1 x2 y2 x y : ℤ) (n : ℕ) → r ≡ rect_of x1 y1 x2 y2 → x1 ≡ x → y1 ≡ y → x2 ≡ x +ℤ pos n → y2 ≡ y +ℤ pos 1 → 0 < n → r ≡ line_rect x y n
line_is r x1 y1 x2 y2 x y n is a b c d some =
    is ∙ rw (a, b, c, d) (rect_of-proper x y (x +ℤ pos n) (y +ℤ pos 1) (omega (arith, ints)) (omega (arith, ints)))

place_gap : (x : ℤ) (i : ℕ) → int_gap x (x +ℤ pos i) ≡ i
place_gap x i = let p = gap_is x (x +ℤ pos i) (omega (arith, ints)) in omega (arith, ints, p)

pub line_row : (d : Depth) (c : Components) (x y : ℤ) (n : ℕ) (bytes : List ℕ) → length bytes ≡ n * pixel_size d c → IsLine d c (line_rect x y n) y bytes
line_row d c x y n bytes long =
    record { wide = omega (arith, ints); above = omega (arith, ints); below = omega (arith, ints); long = long ∙ ap (λ k. k * pixel_size d c) (sym (place_gap x n)) }

pub line_pixel : (d : Depth) (c : Components) (x y : ℤ) (n : ℕ) (bytes : List ℕ) (f : ℤ → ℤ → Pixel) (i : ℕ) → i < n → ShowsRow d c (line_rect x y n) y f bytes
    → pixel_in d c bytes i ≡ f (x +ℤ pos i) y
line_pixel d c x y n bytes f i low shows =
    ap (pixel_in d c bytes) (sym (place_gap x i))
    ∙ shows (x +ℤ pos i) (place_to (line_rect x y n) (x +ℤ pos i) y (omega (arith, ints)) (omega (arith, ints)) (omega (arith, ints)) (omega (arith, ints)))
