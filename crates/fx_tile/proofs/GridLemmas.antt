-- The window tiles of a picture: how many, where they lie, and that each place of the picture is in one.
use Rattle.std.proofs.Common.{◌≡◌, ◌≢◌, ℕ, suc, zero, ◌<◌, ◌≤◌, ◌+◌, ◌/◌, ℤ, pos, negsuc, ◌≤ℤ◌, ◌+ℤ◌, ◌-ℤ◌, length, refl, ap, ◌∙◌, subst, arith, inl, inr, All, slice_index_or}
use Rattle.std.specs.Int.{int_gap}
use Rattle.std.specs.List.{flat_map}
use Rattle.std.proofs.Math.Nat.{div-le_self}
use Rattle.std.proofs.lemmas.Bool.{and_from, cases_Bool}
use Rattle.std.proofs.lemmas.Int.{ints}
use Rattle.std.proofs.lemmas.List.{length-map}
use Rattle.std.proofs.lemmas.List.Concat.{length-flat_map}
use Rattle.std.proofs.lemmas.List.Elements.{All-map, All-weaker}
use Rattle.std.proofs.lemmas.List.Sums.{sum_by-le}
use Rattle.fx_base.specs.Bounds.{Bounds, none}
use Rattle.fx_base.specs.Rect.{Holds, IsNear, IsWithin, is_empty, meet, within}
use Rattle.fx_base.specs.Run.{int_range, int_run}
use Rattle.fx_base.specs.Grid.{IsTileOf, tile_after, tile_at, tile_of, tiles_between, tiles_of}
use Rattle.fx_base.proofs.GridLaws.{All-tiles_of, Contains-tiles_of, Holds-tile_at}
use Rattle.fx_base.proofs.RectLaws.{IsRect-meet, IsWithin-meet_first, IsWithin-meet_second, gap_is}
use Rattle.fx_base.proofs.RectLemmas.{Encloses-from_within, IsProper, IsProper-from_rect, is_empty-holds, within-meet}
use Rattle.fx_base.proofs.RunLaws.{Contains-map}
use Rattle.fx_effect.specs.Shape.{IsProject}
use Rattle.fx_region.specs.Counts.{window_tiles}
use Rattle.fx_tile.specs.Moments.{Cover, IsWindowTile}
use Rattle.fx_tile.proofs.NeedLemmas.{tile_high, tile_wide}
use Rattle.fx_tile.proofs.SizeLemmas.{small_within}

-- ---- how many

length-run : (a : ℤ) (n : ℕ) → length (int_run a n) ≡ n
length-run a zero = refl
length-run a (suc n) = ap suc (length-run (a +ℤ pos 1) n)

after_is : (side n : ℕ) → tile_after side (pos (suc n)) ≡ pos (n / side + 1)
after_is side n = let e : pos (suc n) -ℤ pos 1 ≡ pos n = omega (arith, ints) in rw e (omega (arith, ints))

few_along : (side : ℕ) (high : ℤ) → pos 1 ≤ℤ high → high ≤ℤ pos 8192 → int_gap (tile_of side (pos 0)) (tile_after side high) ≤ 8192
few_along side (pos zero) some few = absurd (omega (arith, ints))
few_along side (pos (suc n)) some few =
    let low = div-le_self 0 side in
    let top = div-le_self n side in
    rw (after_is side n) (let gap = gap_is (pos (0 / side)) (pos (n / side + 1)) (omega (arith, ints)) in omega (arith, ints))
few_along side (negsuc n) some few = absurd (omega (arith, ints))

few_rows : (side : ℕ) (left right bottom top : ℤ) → int_gap left right ≤ 8192 → int_gap bottom top ≤ 8192
    → length (flat_map (λ j. tiles_between side j left right) (int_range bottom top)) ≤ 67108864
few_rows side left right bottom top wide high =
    let rows = int_range bottom top in
    let row_of = λ (j : ℤ). tiles_between side j left right in
    let one : (j : ℤ) → length (row_of j) ≤ 8192 = λ j.
    let long = length-map (int_range left right) (λ i. tile_at side i j) in
    let run = length-run left (int_gap left right) in
    omega (arith, long, run) in
    let all = length-flat_map row_of rows in
    let long = length-run bottom (int_gap bottom top) in
    let most = sum_by-le (λ j. length (row_of j)) 8192 rows (λ k d low. one (slice_index_or rows k d)) in
    omega (arith, all, long, most)

-- a grid has at most 8,192 columns and 8,192 rows of tiles that hold a place of the project
pub few_tiles : (side : ℕ) (project : Bounds) → IsProject project → length (tiles_of side project) ≤ 67108864
unfolding tiles_of
few_tiles side project is =
    let wide : int_gap (tile_of side project.x1) (tile_after side project.x2) ≤ 8192 = rw is.left (few_along side project.x2 is.wide.0 is.wide.1) in
    let high : int_gap (tile_of side project.y1) (tile_after side project.y2) ≤ 8192 = rw is.bottom (few_along side project.y2 is.high.0 is.high.1) in
    elim (cases_Bool (is_empty project)) [
      | inl empty ↦ rw empty (omega arith)
      | inr some ↦
          rw some
          (few_rows side (tile_of side project.x1) (tile_after side project.x2) (tile_of side project.y1) (tile_after side project.y2) wide high)
    ]

-- ---- what they are

not_none : (r : Bounds) (x y : ℤ) → Holds r x y → r ≢ none
not_none r x y here is = is_empty-holds none x y refl (subst (λ (b : Bounds). Holds b x y) is here)

held_by_both : (r s : Bounds) (x y : ℤ) → Holds r x y → Holds s x y → Holds (meet r s) x y
held_by_both r s x y first second = within-meet r s x y ∙ and_from (within r x y) (within s x y) first second

is_near : (r project : Bounds) → IsProper r → IsWithin r project → IsProject project → IsNear r
is_near r project proper inside is =
    let in_p = Encloses-from_within r project proper inside in
    let q1 = in_p.left in let q2 = in_p.right in let q3 = in_p.bottom in let q4 = in_p.top in
    let p1 = proper.wide in let p2 = proper.high in
    let left = is.left in let bottom = is.bottom in let wide = is.wide in let high = is.high in
    record { left = omega (arith, ints); right = omega (arith, ints); bottom = omega (arith, ints); top = omega (arith, ints) }

window_tile : (side : ℕ) (project tile : Bounds) → side ≤ 1024 → IsProject project → IsTileOf side project tile
    → IsWindowTile project (meet project tile)
window_tile side project tile few is of =
    let r = meet project tile in
    let some = not_none r of.x of.y (held_by_both project tile of.x of.y of.in_rect of.in_tile) in
    let proper = IsProper-from_rect r (IsRect-meet project tile) some in
    let inside = IsWithin-meet_first project tile in
    let wide = tile_wide side project tile of in
    let high = tile_high side project tile of in
    let small = small_within r tile proper (IsWithin-meet_second project tile) (omega (arith, wide, few), omega (arith, high, few)) in
    record {
      region = record {
        some = some;
        window = record { bounds = IsRect-meet project tile; near = is_near r project proper inside is };
        small = small;
      };
      within = inside;
    }

pub each_window_tile : (side : ℕ) (project : Bounds) → 1 ≤ side → side ≤ 1024 → IsProject project
    → All (IsWindowTile project) (window_tiles side project)
each_window_tile side project some few is =
    All-map (IsWindowTile project) (meet project) (tiles_of side project)
    (All-weaker (IsTileOf side project) (λ tile. IsWindowTile project (meet project tile)) (λ tile of. window_tile side project tile few is of)
    (tiles_of side project) (All-tiles_of side project (omega (arith, some))))

pub tiles_cover : (side : ℕ) (project : Bounds) → 1 ≤ side → Cover (window_tiles side project) project
tiles_cover side project some x y here =
    let least : 0 < side = omega (arith, some) in
    let whole = tile_at side (tile_of side x) (tile_of side y) in (
      meet project whole,
      Contains-map (meet project) (tiles_of side project) whole (Contains-tiles_of side project x y least here),
      held_by_both project whole x y here (Holds-tile_at side x y least),
    )
