-- Rows of bytes that are read from a clip.
use Rattle.std.proofs.Common.{◌≡◌, ◌<◌, ◌*◌, ℕ, ℤ, pos, ◌+ℤ◌, List, length, ap, sym, arith, ◌∙◌}
use Rattle.std.specs.Int.{int_gap}
use Rattle.std.proofs.lemmas.Int.{ints}
use Rattle.fx_base.specs.Bounds.{Bounds}
use Rattle.fx_base.specs.Rect.{columns}
use Rattle.fx_base.proofs.RectLaws.{gap_is}
use Rattle.fx_base.proofs.RectLemmas.{Holds-from_inside}
use Rattle.fx_pixel.specs.declared.Depth.{Depth}
use Rattle.fx_pixel.specs.declared.Components.{Components}
use Rattle.fx_pixel.specs.declared.Pixel.{Pixel}
use Rattle.fx_image.specs.Stored.{pixel_size, pixel_in}
use Rattle.fx_effect.specs.Rows.{IsRow, IsLine, ShowsRow}
use Rattle.fx_effect.specs.Given.{Given, ShowsClip, clip_components, row_pixel}
use Rattle.fx_effect.proofs.PieceLaws.{is_wide}

-- bytes that are as many as the row of a clip has, in a rectangle that has the row
pub line_of : (given : Given) (clip : ℕ) (depth : Depth) (c d : Components) (rect : Bounds) (y : ℤ) (row bytes : List ℕ)
    → ShowsClip given clip depth d → IsRow depth c rect y row → length bytes ≡ columns rect * pixel_size depth d
    → IsLine given.depth (clip_components given clip) rect y bytes
line_of given clip depth c d rect y row bytes shows is long =
    rw (shows.depth_is, shows.components_are)
    (record { wide = is_wide rect is.bounds; above = is.above; below = is.below; long = long })

-- what was read of it, at the depth and components in which it is seen
pub shown_of : (given : Given) (clip : ℕ) (depth : Depth) (d : Components) (rect : Bounds) (y t : ℤ) (bytes : List ℕ)
    → ShowsClip given clip depth d → ShowsRow given.depth (clip_components given clip) rect y (row_pixel given clip t) bytes
    → ShowsRow depth d rect y (row_pixel given clip t) bytes
shown_of given clip depth d rect y t bytes shows read = rw (← shows.depth_is, ← shows.components_are) read

-- pixel i of a row that shows pixels
pub pixel_of : (d : Depth) (c : Components) (rect : Bounds) (y : ℤ) (row bytes : List ℕ) (f : ℤ → ℤ → Pixel)
    → IsRow d c rect y row → ShowsRow d c rect y f bytes
    → (i : ℕ) → i < columns rect → pixel_in d c bytes i ≡ f (rect.x1 +ℤ pos i) y
pixel_of d c rect y row bytes f is shows i low =
    let x = rect.x1 +ℤ pos i in
    let whole = gap_is rect.x1 rect.x2 (is_wide rect is.bounds) in
    let here = gap_is rect.x1 x (omega (arith, ints)) in
    let place : int_gap rect.x1 x ≡ i = omega (arith, ints, here) in
    ap (pixel_in d c bytes) (sym place)
    ∙ shows x (Holds-from_inside rect x y (record { left = omega (arith, ints); right = omega (arith, ints, whole, low); bottom = is.above; top = is.below }))
