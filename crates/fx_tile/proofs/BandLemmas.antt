-- The tiles of the bands of a picture: one band after the other, they are those of the picture, so many to each.
use Rattle.std.proofs.Common.{◌≡◌, ℕ, zero, suc, ◌<◌, ◌≤◌, ◌+◌, ◌-◌, ◌*◌, ◌/◌, min, take, drop, length, get_or, ℤ, pos, ◌≤ℤ◌, ◌+ℤ◌, ◌-ℤ◌, ◌*ℤ◌, false, List, [], ◌∷◌, ◌++◌, map, refl, sym, ap, subst, ◌∙◌, arith, inl, inr, append-nil}
use Rattle.std.specs.Int.{int_gap, int_max, int_min}
use Rattle.std.specs.List.{flat_map, range_with_len}
use Rattle.std.proofs.lemmas.Bool.{cases_Bool}
use Rattle.std.proofs.lemmas.Int.{ints}
use Rattle.std.proofs.lemmas.Nat.{mul-le}
use Rattle.std.proofs.Math.Nat.{mul-div_cancel_left, mul-le-mul_right, suc-mul}
use Rattle.std.proofs.Math.Seq.{drop-append-add, take-append_seam}
use Rattle.std.proofs.lemmas.List.{length-append, length-map, map-append}
use Rattle.std.proofs.lemmas.List.Concat.{flat_map-cons}
use Rattle.std.proofs.lemmas.Simd.{map-map}
use Rattle.fx_base.specs.Bounds.{Bounds}
use Rattle.fx_base.specs.Grid.{tile_after, tile_at, tile_of, tiles_between, tiles_of}
use Rattle.fx_base.specs.Rect.{is_empty, meet, rect_of, rows}
use Rattle.fx_base.specs.Run.{int_range, int_run}
use Rattle.fx_base.proofs.GridLaws.{tile_of-only, tiles_of-proper}
use Rattle.fx_base.proofs.RectLaws.{gap_is}
use Rattle.fx_base.proofs.RectLemmas.{Holds-from_inside, is_empty-holds}
use Rattle.fx_base.proofs.RunLaws.{int_range-end, int_range-step, order}
use Rattle.fx_image.specs.Bands.{AreBands, AreWhole, band_rect}
use Rattle.fx_image.specs.Stored.{Stored}
use Rattle.fx_image.specs.declared.layout.Layout.{Layout}
use Rattle.fx_region.specs.Counts.{window_tiles}
use Rattle.fx_tile.specs.Moments.{AreInBands, Cover, tiles_of_band}
use Rattle.fx_tile.proofs.GridLemmas.{tiles_cover}

-- ---- lists one after the other, all of one length

front : {A : Type 0} (c : ℕ) (xs ys : List A) → length xs ≡ c → take c (xs ++ ys) ≡ xs
front c xs ys long = ap (λ n. take n (xs ++ ys)) (sym long) ∙ take-append_seam xs ys

behind : {A : Type 0} (c m : ℕ) (xs ys : List A) → length xs ≡ c → drop (c + m) (xs ++ ys) ≡ drop m ys
behind c m xs ys long = ap (λ n. drop (n + m) (xs ++ ys)) (sym long) ∙ drop-append-add xs ys m

module _ {A : Type 0} (f : ℕ → List A) (c : ℕ) where
  all_long : (a n : ℕ) → ((j : ℕ) → j < n → length (f (a + j)) ≡ c) → length (flat_map f (range_with_len a n)) ≡ n * c
  all_long a zero long = omega arith
  all_long a (suc n) long =
      let first : length (f a) ≡ c = subst (λ k. length (f k) ≡ c) (omega arith) (long 0 (omega arith)) in
      let rest = all_long (a + 1) n (λ j low. subst (λ k. length (f k) ≡ c) (omega arith) (long (suc j) (omega (arith, low)))) in
      let both = length-append (f a) (flat_map f (range_with_len (a + 1) n)) in
      let e = ap length (flat_map-cons f a (range_with_len (a + 1) n)) in
      omega (arith, first, rest, both, e)

  -- the one of number k lies behind k of them
  one_of_them : (a n k : ℕ) → ((j : ℕ) → j < n → length (f (a + j)) ≡ c) → k < n
      → take c (drop (k * c) (flat_map f (range_with_len a n))) ≡ f (a + k)
  one_of_them a zero k long low = absurd (omega (arith, low))
  one_of_them a (suc n) zero long low =
      let rest = flat_map f (range_with_len (a + 1) n) in
      let first : length (f a) ≡ c = subst (λ k. length (f k) ≡ c) (omega arith) (long 0 (omega arith)) in
      let none : 0 * c ≡ 0 = omega arith in
      let at : a ≡ a + 0 = omega arith in
      ap (λ i. take c (drop i (flat_map f (range_with_len a (suc n))))) none
      ∙ ap (take c) (flat_map-cons f a (range_with_len (a + 1) n))
      ∙ front c (f a) rest first
      ∙ ap f at
  one_of_them a (suc n) (suc k) long low =
      let rest = flat_map f (range_with_len (a + 1) n) in
      let first : length (f a) ≡ c = subst (λ k. length (f k) ≡ c) (omega arith) (long 0 (omega arith)) in
      let more : suc k * c ≡ c + k * c = omega arith in
      let at : a + 1 + k ≡ a + suc k = omega arith in
      ap (λ i. take c (drop i (flat_map f (range_with_len a (suc n))))) more
      ∙ ap (λ xs. take c (drop (c + k * c) xs)) (flat_map-cons f a (range_with_len (a + 1) n))
      ∙ ap (take c) (behind c (k * c) (f a) rest first)
      ∙ one_of_them (a + 1) n k (λ j less. subst (λ k. length (f k) ≡ c) (omega arith) (long (suc j) (omega (arith, less)))) (omega (arith, low))
      ∙ ap f at

-- ---- the tiles of a row

-- a function that is the same at each place gives the same list
map_as : {A B : Type 0} (f g : A → B) → ((x : A) → f x ≡ g x) → (xs : List A) → map f xs ≡ map g xs
map_as f g same [] = refl
map_as f g same (x ∷ xs) = λ i. same x i ∷ map_as f g same xs i

max_right : (a b : ℤ) → a ≤ℤ b → int_max a b ≡ b
max_right a b le = grind (arith, ints)

min_right : (a b : ℤ) → b ≤ℤ a → int_min a b ≡ b
min_right a b le = grind (arith, ints)

-- a rectangle with a place is not empty
proper : (r : Bounds) → r.x1 ≤ℤ (r.x2 -ℤ pos 1) → r.y1 ≤ℤ (r.y2 -ℤ pos 1) → is_empty r ≡ false
proper r wide high =
    elim (cases_Bool (is_empty r)) [
      | inl empty ↦
          absurd (is_empty-holds r r.x1 r.y1 empty
          (Holds-from_inside r r.x1 r.y1 (record { left = omega (arith, ints); right = omega (arith, ints); bottom = omega (arith, ints); top = omega (arith, ints) })))
      | inr some ↦ some
    ]

below_all : (n s h k : ℕ) → n * s < h + s → k < n → k * s < h
below_all n s h k less low = omega (arith, less, suc-mul k s, mul-le-mul_right s low)

pub some_of : (n s h : ℕ) → h ≤ n * s → 0 < h → 0 < n
some_of zero s h enough some = absurd (omega (arith, enough, some))
some_of (suc n) s h enough some = omega arith

module _ (side : ℕ) (p : Bounds) (some : 0 < side) (left : p.x1 ≡ pos 0) (bottom : p.y1 ≡ pos 0) (wide : pos 1 ≤ℤ p.x2) (high : pos 1 ≤ℤ p.y2) where
  -- the tiles of a row, over the columns of the extent
  abbrev row : ℤ → List Bounds
  row j = tiles_between side j (tile_of side p.x1) (tile_after side p.x2)

  tall : p.y2 ≡ pos (rows p)
  tall = let g = gap_is p.y1 p.y2 (omega (arith, ints)) in omega (arith, ints)

  module _ (k : ℕ) (there : k * side < rows p) where
    abbrev b : Bounds
    b = band_rect p side k

    low_is : b.y1 ≡ pos (k * side)
    low_is = omega (arith, ints)

    top_is : b.y2 ≡ pos (k * side + min side (rows p - k * side))
    top_is = omega (arith, ints)

    begins : tile_of side b.y1 ≡ pos k
    begins = let e = low_is in tile_of-only side b.y1 (pos k) some (omega (arith, ints)) (omega (arith, ints))

    ends : tile_after side b.y2 ≡ pos k +ℤ pos 1
    ends = let e = top_is in ap (λ z. z +ℤ pos 1) (tile_of-only side (b.y2 -ℤ pos 1) (pos k) some (omega (arith, ints)) (omega (arith, ints)))

    one_row : int_range (tile_of side b.y1) (tile_after side b.y2) ≡ pos k ∷ []
    one_row =
        ap (λ z. int_range z (tile_after side b.y2)) begins
        ∙ ap (λ z. int_range (pos k) z) ends
        ∙ int_range-step (pos k) (pos k +ℤ pos 1) (omega (arith, ints))
        ∙ ap (λ js. pos k ∷ js) (int_range-end (pos k +ℤ pos 1) (pos k +ℤ pos 1) (omega (arith, ints)))

    not_empty : is_empty b ≡ false
    not_empty = let e = low_is in let f = top_is in proper b (omega (arith, ints)) (omega (arith, ints))

    their_row : tiles_of side b ≡ row (pos k)
    their_row =
        sym (tiles_of-proper side b (tile_of side b.y1) (tile_after side b.y2) not_empty refl refl)
        ∙ ap (λ js. flat_map row js) one_row
        ∙ flat_map-cons row (pos k) []
        ∙ append-nil (row (pos k))

    low_same : int_max b.y1 (pos k *ℤ pos side) ≡ int_max p.y1 (pos k *ℤ pos side)
    low_same = let e = low_is in max_right b.y1 (pos k *ℤ pos side) (omega (arith, ints)) ∙ sym (max_right p.y1 (pos k *ℤ pos side) (omega (arith, ints)))

    top_same : int_min b.y2 ((pos k *ℤ pos side) +ℤ pos side) ≡ int_min p.y2 ((pos k *ℤ pos side) +ℤ pos side)
    top_same =
        let e = top_is in
        let t = tall in
        let above = (pos k *ℤ pos side) +ℤ pos side in
        elim (order above p.y2) [
          | inl le ↦ min_right b.y2 above (omega (arith, ints)) ∙ sym (min_right p.y2 above le)
          | inr past ↦ let same : b.y2 ≡ p.y2 = omega (arith, ints) in ap (λ z. int_min z above) same
        ]

    same_cut : (i : ℤ) → meet b (tile_at side i (pos k)) ≡ meet p (tile_at side i (pos k))
    same_cut i =
        λ q. rect_of (int_max p.x1 (tile_at side i (pos k)).x1) (low_same q) (int_min p.x2 (tile_at side i (pos k)).x2) (top_same q)

    -- the tiles of a band are a row of the picture's
    band_tiles : window_tiles side b ≡ map (meet p) (row (pos k))
    band_tiles =
        let columns = int_range (tile_of side p.x1) (tile_after side p.x2) in
        ap (map (meet b)) their_row
        ∙ map-map (meet b) (λ i. tile_at side i (pos k)) columns
        ∙ map_as (λ i. meet b (tile_at side i (pos k))) (λ i. meet p (tile_at side i (pos k))) same_cut columns
        ∙ sym (map-map (meet p) (λ i. tile_at side i (pos k)) columns)

  below : (a n k : ℕ) → (a + suc n) * side < rows p + side → a * side < rows p
  below a n k less = omega (arith, less)

  rows_of_bands : (a n : ℕ) → (a + n) * side < rows p + side
      → flat_map (λ k. window_tiles side (band_rect p side k)) (range_with_len a n) ≡ map (meet p) (flat_map row (int_run (pos a) n))
  rows_of_bands a zero less = refl
  rows_of_bands a (suc n) less =
      flat_map-cons (λ k. window_tiles side (band_rect p side k)) a (range_with_len (a + 1) n)
      ∙ ap (λ ts. ts ++ flat_map (λ k. window_tiles side (band_rect p side k)) (range_with_len (a + 1) n)) (band_tiles a (below a n 0 less))
      ∙ ap (λ ts. map (meet p) (row (pos a)) ++ ts) (rows_of_bands (a + 1) n (omega (arith, less)))
      ∙ sym (map-append (meet p) (row (pos a)) (flat_map row (int_run (pos (a + 1)) n)))
      ∙ ap (map (meet p)) (sym (flat_map-cons row (pos a) (int_run (pos (a + 1)) n)))

  first_row : tile_of side p.y1 ≡ pos 0
  first_row = let z : pos 0 *ℤ pos side ≡ pos 0 = omega (arith, ints) in tile_of-only side p.y1 (pos 0) some (omega (arith, ints)) (omega (arith, ints))

  last_row : (m : ℕ) → rows p ≤ suc m * side → suc m * side < rows p + side → tile_after side p.y2 ≡ pos (suc m)
  last_row m enough no_spare =
      let t = tall in
      ap (λ z. z +ℤ pos 1) (tile_of-only side (p.y2 -ℤ pos 1) (pos m) some (omega (arith, ints)) (omega (arith, ints)))
      ∙ (let e : m + 1 ≡ suc m = omega arith in ap pos e)

  all_rows : (n : ℕ) → rows p ≤ n * side → n * side < rows p + side
      → int_range (tile_of side p.y1) (tile_after side p.y2) ≡ int_run (pos 0) n
  all_rows zero enough no_spare = let t = tall in absurd (omega (arith, ints))
  all_rows (suc m) enough no_spare =
      ap (λ z. int_range z (tile_after side p.y2)) first_row
      ∙ ap (λ z. int_range (pos 0) z) (last_row m enough no_spare)
      ∙ (let g = gap_is (pos 0) (pos (suc m)) (omega (arith, ints)) in
      let long : int_gap (pos 0) (pos (suc m)) ≡ suc m = omega (arith, ints) in
      ap (int_run (pos 0)) long)

  pub bands_tiles : (n : ℕ) → rows p ≤ n * side → n * side < rows p + side
      → flat_map (λ k. window_tiles side (band_rect p side k)) (range_with_len 0 n) ≡ window_tiles side p
  bands_tiles n enough no_spare =
      rows_of_bands 0 n (let e : 0 + n ≡ n = omega arith in subst (λ (k : ℕ). k * side < rows p + side) (sym e) no_spare)
      ∙ ap (λ js. map (meet p) (flat_map row js)) (sym (all_rows n enough no_spare))
      ∙ ap (map (meet p)) (tiles_of-proper side p (tile_of side p.y1) (tile_after side p.y2) (proper p (omega (arith, ints)) (omega (arith, ints))) refl refl)

  -- each band has so many
  band_long : (k : ℕ) → k * side < rows p → length (window_tiles side (band_rect p side k)) ≡ length (int_range (tile_of side p.x1) (tile_after side p.x2))
  band_long k there =
      ap length (band_tiles k there)
      ∙ length-map (row (pos k)) (meet p)
      ∙ length-map (int_range (tile_of side p.x1) (tile_after side p.x2)) (λ i. tile_at side i (pos k))

  pub tiles_in_bands : (l : Layout) (bands : List Stored) → AreBands l bands → AreWhole l bands → l.rect ≡ p → l.band_rows ≡ side
      → (tiles : List Bounds) → tiles ≡ window_tiles side p → AreInBands l (length tiles / length bands) tiles bands
  tiles_in_bands l bands are whole_bands rect step tiles is =
      let n = length bands in
      let c = length (int_range (tile_of side p.x1) (tile_after side p.x2)) in
      let f : ℕ → List Bounds = λ k. window_tiles side (band_rect p side k) in
      let t = tall in
      let enough : rows p ≤ n * side = subst (λ s. rows p ≤ n * s) step (subst (λ r. rows r ≤ n * l.band_rows) rect are.enough) in
      let no_spare : n * side < rows p + side = subst (λ s. n * s < rows p + s) step (subst (λ r. n * l.band_rows < rows r + l.band_rows) rect are.no_spare) in
      let there : (k : ℕ) → k < n → k * side < rows p = λ k low. below_all n side (rows p) k no_spare low in
      let long : (j : ℕ) → j < n → length (f (0 + j)) ≡ c = λ j low.
      let z : j ≡ 0 + j = omega arith in subst (λ k. length (f k) ≡ c) z (band_long j (there j low)) in
      let whole : flat_map f (range_with_len 0 n) ≡ tiles = bands_tiles n enough no_spare ∙ sym is in
      let all : length tiles ≡ n * c = ap length (sym whole) ∙ all_long f c 0 n long in
      let some_bands : 0 < n = some_of n side (rows p) enough (omega (arith, ints, t)) in
      let columns : length tiles / n ≡ c = ap (λ m. m / n) all ∙ mul-div_cancel_left c some_bands in
      record {
        are = are;
        whole = whole_bands;
        many = ap (λ m. n * m) columns ∙ sym all;
        cover = λ k d low.
            let at : (get_or bands k d).rect ≡ band_rect p side k = ap (λ (m : Layout). m.rect) (are.each k d low) ∙ (λ i. band_rect (rect i) (step i) k) in
            let z : 0 + k ≡ k = omega arith in
            let mine : tiles_of_band (length tiles / n) tiles k ≡ f k =
            ap (λ m. tiles_of_band m tiles k) columns
            ∙ ap (λ ts. take c (drop (k * c) ts)) (sym whole)
            ∙ one_of_them f c 0 n k long low
            ∙ ap f z in
            subst (λ (r : Bounds). Cover (tiles_of_band (length tiles / n) tiles k) r) (sym at)
            (subst (λ ts. Cover ts (band_rect p side k)) (sym mine) (tiles_cover side (band_rect p side k) (omega (arith, some))));
      }

-- there are no more bands than rows
pub few_bands : (n s h : ℕ) → 0 < s → n * s < h + s → n ≤ h
few_bands zero s h some less = omega arith
few_bands (suc m) s h some less =
    let next = suc-mul m s in let up = mul-le m 1 m s (omega arith) (omega (arith, some)) in omega (arith, less, next, up)
