-- The text of an image, as it grows.
use Rattle.std.proofs.Common.{◌≡◌, ◌≤◌, ℕ, suc, ◌+◌, ℤ, pos, ◌-ℤ◌, ◌≤ℤ◌, List, [], ◌∷◌, ◌++◌, length, take, refl}
use Rattle.std.proofs.Common.{sym, ap, ◌∙◌, append_assoc, arith}
use Rattle.std.specs.Int.{int_gap}
use Rattle.std.proofs.lemmas.Int.{ints}
use Rattle.std.proofs.lemmas.List.{length-append, take_at, take-take}
use Rattle.fx_base.specs.Rect.{columns}
use Rattle.fx_pixel.specs.declared.Format.{Format}
use Rattle.fx_image.specs.Image.{Image}
use Rattle.fx_pam.specs.Text.{row_bytes, raster}
use Rattle.fx_pam.proofs.WrittenRows.{gap_is}

-- nothing was pushed
pub kept_front : (old : List ℕ) → take (length old) old ≡ old
kept_front [] = refl
kept_front (b ∷ bs) = ap (λ xs. b ∷ xs) (kept_front bs)

pub still_front : (old new : List ℕ) → new ≡ old → take (length old) new ≡ old
still_front old new is = ap (take (length old)) is ∙ kept_front old

-- what began with a longer list began with its front
pub begun_with : (old more long new : List ℕ) → long ≡ old ++ more → take (length long) new ≡ long → take (length old) new ≡ old
begun_with old more long new is begun =
    let longer : length old ≤ length long = omega (arith, ap length is, length-append old more) in
    sym (take-take (length old) (length long) new longer)
    ∙ ap (take (length old)) (begun ∙ is)
    ∙ take_at old more (length old) refl

-- one row more, below those so far
pub raster-more : (format : Format) (image : Image) (y below : ℤ) (old so_far new : List ℕ) → y ≤ℤ image.rect.y2 → below ≡ (y -ℤ pos 1)
    → so_far ≡ old ++ raster format image (int_gap y image.rect.y2) → new ≡ so_far ++ row_bytes format image below (columns image.rect) → new ≡ old ++ raster format image (int_gap below image.rect.y2)
raster-more format image y below old so_far new low is before now =
    let n = int_gap y image.rect.y2 in
    let more : int_gap below image.rect.y2 ≡ suc n = omega (arith, ints, gap_is y image.rect.y2 low, gap_is below image.rect.y2 (omega (arith, ints))) in
    let place : below ≡ (image.rect.y2 -ℤ pos (n + 1)) = omega (arith, ints, gap_is y image.rect.y2 low) in
    now
    ∙ ap (λ out. out ++ row_bytes format image below (columns image.rect)) before
    ∙ append_assoc old (raster format image n) (row_bytes format image below (columns image.rect))
    ∙ ap (λ z. old ++ (raster format image n ++ row_bytes format image z (columns image.rect))) place
    ∙ ap (λ k. old ++ raster format image k) (sym more)
