-- How many tiles of a grid meet a rectangle.
use Rattle.std.proofs.Common.{◌≡◌, ◌≤◌, ◌<◌, ℕ, ◌*◌, ℤ, pos, negsuc, ◌+ℤ◌, ◌-ℤ◌, ◌≤ℤ◌, ◌<ℤ◌, List, [], ◌∷◌, length, false, refl, ap, arith, ◌∙◌, w64, FitsSigned}
use Rattle.std.specs.Int.{int_gap}
use Rattle.std.specs.List.{sum_by}
use Rattle.std.proofs.lemmas.Bool.{cond-false}
use Rattle.std.proofs.lemmas.List.Concat.{length-flat_map}
use Rattle.std.proofs.lemmas.List.Sums.{sum_by-cons}
use Rattle.std.proofs.lemmas.Int.{ints}
use Rattle.fx_base.specs.Bounds.{Bounds}
use Rattle.fx_base.proofs.GridLaws.{tile_of-rises}
use Rattle.fx_base.proofs.RectLaws.{gap_is}
use Rattle.fx_base.specs.Grid.{tile_after, tile_at, tile_of, tiles_between, tiles_in_rows, tiles_of}
use Rattle.fx_base.specs.Rect.{is_empty}
use Rattle.fx_base.specs.Run.{int_range}
use Rattle.fx_kernel.specs.AroundLaws.{length-int_run, length-mapped}

row_counted : (side : ℕ) (j left right : ℤ) → length (tiles_between side j left right) ≡ int_gap left right
row_counted side j left right =
    length-mapped (λ i. tile_at side i j) (int_range left right) ∙ length-int_run left (int_gap left right)

same_sum : (f : ℤ → ℕ) (n : ℕ) (zs : List ℤ) → ((z : ℤ) → f z ≡ n) → sum_by f zs ≡ length zs * n
same_sum f n [] same = omega arith
same_sum f n (z ∷ zs) same = omega (arith, sum_by-cons f z zs, same z, same_sum f n zs same)

-- as many as columns times rows
pub tiles_counted : (side : ℕ) (r : Bounds) → is_empty r ≡ false
    → length (tiles_of side r) ≡ int_gap (tile_of side r.y1) (tile_after side r.y2) * int_gap (tile_of side r.x1) (tile_after side r.x2)
unfolding tiles_of
tiles_counted side r some =
    let columns = int_gap (tile_of side r.x1) (tile_after side r.x2) in
    let rows = int_gap (tile_of side r.y1) (tile_after side r.y2) in
    let row : ℤ → List Bounds = λ j. tiles_between side j (tile_of side r.x1) (tile_after side r.x2) in
    ap length (cond-false (is_empty r) [] (tiles_in_rows side r (tile_of side r.y1) (tile_after side r.y2)) some)
    ∙ length-flat_map row (int_range (tile_of side r.y1) (tile_after side r.y2))
    ∙ same_sum (λ j. length (row j)) columns (int_range (tile_of side r.y1) (tile_after side r.y2))
    (λ j. row_counted side j (tile_of side r.x1) (tile_after side r.x2))
    ∙ ap (λ n. n * columns) (length-int_run (tile_of side r.y1) rows)

-- the columns or rows of tiles from one coordinate up to another
pub record IsAlong (a b : ℤ) : Type 0 where
  pub order : a ≤ℤ (b +ℤ pos 1)
  pub some : 0 < int_gap a (b +ℤ pos 1)
  pub few : int_gap a (b +ℤ pos 1) ≤ 2147483649

pub along : (side : ℕ) (low high a b : ℤ) → 0 < side → low <ℤ high → a ≡ tile_of side low → b ≡ tile_of side (high -ℤ pos 1)
    → negsuc 1073741823 ≤ℤ a → b ≤ℤ pos 1073741824 → IsAlong a b
along side low high a b some order first last above below =
    let rises = tile_of-rises side low (high -ℤ pos 1) some (omega (arith, ints, order)) in
    let less : a ≤ℤ (b +ℤ pos 1) = omega (arith, ints, first, last, rises) in
    let whole = gap_is a (b +ℤ pos 1) less in
    record {
      order = less;
      some = omega (arith, ints, whole, first, last, rises);
      few = omega (arith, ints, whole, above, below);
    }

pub after_is : (side : ℕ) (low high a b : ℤ) → a ≡ tile_of side low → b ≡ tile_of side (high -ℤ pos 1)
    → int_gap a (b +ℤ pos 1) ≡ int_gap (tile_of side low) (tile_after side high)
after_is side low high a b first last = rw (first, last) refl

pub fits_after : (x : ℤ) → negsuc 1073741823 ≤ℤ x → x ≤ℤ pos 1073741824 → FitsSigned w64 (x +ℤ pos 1)
fits_after x low high = grind (arith, ints)
