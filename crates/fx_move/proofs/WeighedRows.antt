-- The two rows that a row of a picture is weighed of.
use Rattle.std.proofs.Common.{◌≡◌, ◌≤◌, ◌<◌, ◌∙◌, ℕ, ◌+◌, ◌*◌, ◌/◌, ℤ, pos, negsuc, ◌+ℤ◌, ◌≤ℤ◌, ◌<ℤ◌, List, length, map, ap, sym, subst, arith, w64, to_z, of_z, FitsSigned}
use Rattle.std.specs.Int.{int_gap}
use Rattle.std.proofs.lemmas.Int.{ints}
use Rattle.fx_base.specs.Bounds.{Bounds}
use Rattle.fx_base.specs.Rect.{columns, IsNear}
use Rattle.fx_base.proofs.RectLaws.{gap_is}
use Rattle.fx_pixel.specs.declared.Depth.{Depth}
use Rattle.fx_pixel.specs.declared.Components.{Components}
use Rattle.fx_pixel.specs.declared.Pixel.{Pixel}
use Rattle.fx_pixel.specs.Pixel.{count, size}
use Rattle.fx_image.specs.Stored.{pixel_size, pixel_in}
use Rattle.fx_image.proofs.ImageLaws.{place_to}
use Rattle.fx_image.proofs.RowsLaws.{rows_apart}
use Rattle.fx_effect.specs.Tap.{Tap, tap}
use Rattle.fx_effect.specs.Given.{Given, clip_components, row_pixel}
use Rattle.fx_effect.specs.Rows.{IsLine, ShowsRow}
use Rattle.fx_move.specs.declared.translate.Along.{Along}
use Rattle.fx_move.specs.Translate.{extra, places, weights, weighed}
use Rattle.fx_move.specs.TranslateRows.{lines_of}
use Rattle.fx_move.proofs.TranslateRows.{fits_wide}

module _ (a b : Along) (d : Depth) (c : Components) (r : Bounds) (y : ℤ) (wide : r.x1 <ℤ r.x2) where
  width_is : int_gap (r.x1 +ℤ a.first) (r.x2 +ℤ a.first +ℤ pos 1) ≡ columns r + 1
  width_is =
      let p = gap_is r.x1 r.x2 (omega (arith, ints, wide)) in
      let q = gap_is (r.x1 +ℤ a.first) (r.x2 +ℤ a.first +ℤ pos 1) (omega (arith, ints, wide)) in
      omega (arith, ints, p, q)

  pub line_of_two : (j : ℤ) (bytes : List ℕ) → (y +ℤ b.first) ≤ℤ j → j <ℤ (y +ℤ b.first +ℤ pos 2)
      → length bytes ≡ (columns r + 1) * pixel_size d c → IsLine d c (lines_of a b r y) j bytes
  line_of_two j bytes above below long =
      record { wide = omega (arith, ints, wide); above = above; below = below; long = long ∙ ap (λ n. n * pixel_size d c) (sym width_is) }

  pub pixel_of_two : (j : ℤ) (bytes : List ℕ) (f : ℤ → ℤ → Pixel) (i : ℕ) → (y +ℤ b.first) ≤ℤ j
      → j <ℤ (y +ℤ b.first +ℤ pos 2) → ShowsRow d c (lines_of a b r y) j f bytes → i < columns r + 1
      → pixel_in d c bytes i ≡ f (r.x1 +ℤ a.first +ℤ pos i) j
  pixel_of_two j bytes f i above below shows less =
      let left = r.x1 +ℤ a.first in
      let p = gap_is r.x1 r.x2 (omega (arith, ints, wide)) in
      let q = gap_is left (left +ℤ pos i) (omega (arith, ints)) in
      let is : int_gap left (left +ℤ pos i) ≡ i = omega (arith, ints, q) in
      ap (pixel_in d c bytes) (sym is)
      ∙ shows (left +ℤ pos i) (place_to (lines_of a b r y) (left +ℤ pos i) j (omega (arith, ints)) (omega (arith, ints, p, less)) above below)

pub weighed_at : (a b : Along) (c : Components) (t : ℤ) (value : Tap → Pixel) (x1 x y : ℤ) → x1 ≤ℤ x
    → weighed c (weights a b) (map value (places (tap 0 t) (x1 +ℤ a.first +ℤ pos (int_gap x1 x)) (1 + extra a) (y +ℤ b.first) (1 + extra b)))
    ≡ weighed c (weights a b) (map value (places (tap 0 t) (x +ℤ a.first) (1 + extra a) (y +ℤ b.first) (1 + extra b)))
weighed_at a b c t value x1 x y left =
    let p = gap_is x1 x left in
    let is : x1 +ℤ a.first +ℤ pos (int_gap x1 x) ≡ x +ℤ a.first = omega (arith, ints, p) in
    ap (λ z. weighed c (weights a b) (map value (places (tap 0 t) z (1 + extra a) (y +ℤ b.first) (1 + extra b)))) is

-- what was read, in the words of the effect
pub shown_lines : (given : Given) (t' t : ℤ) (d : Depth) (c : Components) (r l : Bounds) (j' j : ℤ) (bytes : List ℕ)
    → given.depth ≡ d → clip_components given 0 ≡ c → t' ≡ t → r ≡ l → j' ≡ j
    → ShowsRow given.depth (clip_components given 0) r j' (row_pixel given 0 t') bytes
    → ShowsRow d c l j (row_pixel given 0 t) bytes
shown_lines given t' t d c r l j' j bytes deep seen frame there level read =
    subst (λ z. ShowsRow d c l z (row_pixel given 0 t) bytes) level
    (subst (λ (z : Bounds). ShowsRow d c z j' (row_pixel given 0 t) bytes) there
    (subst (λ z. ShowsRow d c r j' (row_pixel given 0 z) bytes) frame
    (subst (λ z. ShowsRow d z r j' (row_pixel given 0 t') bytes) seen
    (subst (λ z. ShowsRow z (clip_components given 0) r j' (row_pixel given 0 t') bytes) deep read))))

pub line_there : (given : Given) (d : Depth) (c : Components) (r l : Bounds) (j' j : ℤ) (bytes : List ℕ)
    → given.depth ≡ d → clip_components given 0 ≡ c → r ≡ l → j' ≡ j → IsLine d c l j bytes
    → IsLine given.depth (clip_components given 0) r j' bytes
line_there given d c r l j' j bytes deep seen there level line =
    subst (λ z. IsLine z (clip_components given 0) r j' bytes) (sym deep)
    (subst (λ z. IsLine d z r j' bytes) (sym seen)
    (subst (λ (z : Bounds). IsLine d c z j' bytes) (sym there)
    (subst (λ z. IsLine d c l z bytes) (sym level) line)))

-- two halves
pub halves : (n long a b : ℕ) → long ≡ 2 * n → a ≡ long / 2 → b + long / 2 ≡ long → (a ≡ n) × (b ≡ n)
halves n long a b whole first second = (omega arith, omega arith)

-- the rows that are read lie near
pub level_of : (r : Bounds) (y first inside : ℤ) → IsNear r → r.y1 ≤ℤ y → y <ℤ r.y2 → negsuc 16383 ≤ℤ first
    → first ≤ℤ pos 16384 → inside ≡ y +ℤ first
    → (to_z w64 (of_z w64 inside) ≡ y +ℤ first) × (to_z w64 (of_z w64 (to_z w64 (of_z w64 inside) +ℤ pos 1)) ≡ y +ℤ first +ℤ pos 1)
    × FitsSigned w64 (to_z w64 (of_z w64 inside) +ℤ pos 1)
level_of r y first inside near above below low high is =
    let p = near.bottom in
    let q = near.top in
    let level : to_z w64 (of_z w64 inside) ≡ y +ℤ first = omega (arith, ints) in
    (level, omega (arith, ints), fits_wide (to_z w64 (of_z w64 inside) +ℤ pos 1) (omega (arith, ints, level)) (omega (arith, ints, level)))

-- a sample of a row has room
pub sample_fits : (d : Depth) (c : Components) (w s long : ℕ) → s < w * count c → long ≡ w * pixel_size d c → s * size d + size d ≤ long
sample_fits d c w s long less is = let p = rows_apart s (w * count c) (size d) less in omega (arith, p, is)
