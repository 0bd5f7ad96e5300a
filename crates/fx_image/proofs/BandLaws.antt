-- Images that are cut into their bands, and put together again.
use Rattle.std.proofs.Common.{ℕ, ◌≡◌, ◌≤◌, ◌<◌, ◌+◌, ◌-◌, ◌*◌, ◌/◌, ◌%◌, min, ℤ, pos, negsuc, ◌+ℤ◌, ◌≤ℤ◌, ◌<ℤ◌, ◌⊎◌, inl, inr, true, List, [], ◌++◌, ◌∷◌, length, drop, slice_index_or, refl, sym, ap, subst, arith, ◌∙◌, w64, to_z, of_z}
use Rattle.std.specs.Int.{int_gap}
use Rattle.std.specs.Int.Signed.{lt_z}
use Rattle.std.proofs.Math.Nat.{suc-mul, mul-le-mul_right}
use Rattle.std.proofs.lemmas.Bool.{cases_lt}
use Rattle.std.proofs.lemmas.Int.{ints, to_z-of_z}
use Rattle.std.proofs.lemmas.Nat.{mod_below, div-add-mod', div-mul-add, mod-mul-add, div_below}
use Rattle.std.proofs.lemmas.List.{length-drop, length_push, get_or_default}
use Rattle.fx_base.specs.Bounds.{Bounds, IsRect}
use Rattle.fx_base.specs.Rect.{within, Holds, rect_of, rows, IsNear}
use Rattle.fx_image.specs.Rows.{Raster, row_of, IsBlock, AreBlocks, HaveRows, no_rows}
use Rattle.fx_image.specs.Stored.{Stored, IsStored, SameFrame, pixel_in, shown}
use Rattle.fx_image.specs.Bands.{layout_of, band_rect, band_layout, AreBands, AreWhole, ShowBands}
use Rattle.fx_image.specs.declared.layout.Layout.{Layout}
use Rattle.fx_image.proofs.ImageLaws.{gap_is, gap_below, place_from, place_to, fits_near}
use Rattle.fx_image.proofs.RowsLaws.{rows_apart}
use Rattle.fx_image.proofs.RowsMade.{get_push}
use Rattle.fx_image.proofs.RowsCut.{head_of}

-- a rectangle's bottom lies below its top
pub bottom_to_top : (r : Bounds) → IsRect r → r.y1 ≤ℤ r.y2
bottom_to_top r (inl is) = rw is (omega (arith, ints))
bottom_to_top r (inr is) = omega (arith, ints, is.1)

pub left_to_right : (r : Bounds) → IsRect r → r.x1 ≤ℤ r.x2
left_to_right r (inl is) = rw is (omega (arith, ints))
left_to_right r (inr is) = omega (arith, ints, is.0)

gap_of_sums : (y : ℤ) (a b : ℕ) → int_gap (y +ℤ pos a) (y +ℤ pos (a + b)) ≡ b
gap_of_sums y a b = omega (arith, ints, gap_is (y +ℤ pos a) (y +ℤ pos (a + b)) (omega (arith, ints)))

-- how many rows band k has
pub rows_of_band : (r : Bounds) (height k : ℕ) → rows (band_rect r height k) ≡ min height (rows r - k * height)
rows_of_band r height k = gap_of_sums r.y1 (k * height) (min height (rows r - k * height))

module _ (r : Bounds) (height k : ℕ) (is : IsRect r) (some_rows : 0 < height) (there : k * height < rows r) where
  tall : r.y1 +ℤ pos (rows r) ≡ r.y2
  tall = gap_is r.y1 r.y2 (bottom_to_top r is)

  low_high : (r.y1 +ℤ pos (k * height)) <ℤ (r.y1 +ℤ pos (k * height + min height (rows r - k * height)))
  low_high = omega (arith, ints)

  wide_by : IsRect r → r.x1 <ℤ r.x2
  wide_by (inl none) = absurd (omega (arith, ints, tall, ap (λ (b : Bounds). b.y1) none, ap (λ (b : Bounds). b.y2) none))
  wide_by (inr some) = some.0

  pub band_is_rect : IsRect (band_rect r height k)
  band_is_rect = inr (wide_by is, low_high)

  pub band_bounds : rect_of r.x1 (r.y1 +ℤ pos (k * height)) r.x2 (r.y1 +ℤ pos (k * height + min height (rows r - k * height))) ≡ band_rect r height k
  band_bounds =
      let wide = wide_by is in
      let high = low_high in
      let a : lt_z r.x1 r.x2 ≡ true = grind (arith, ints) in
      let b : lt_z (r.y1 +ℤ pos (k * height)) (r.y1 +ℤ pos (k * height + min height (rows r - k * height))) ≡ true = grind (arith, ints) in
      rw (a, b) refl

  pub band_is_near : IsNear r → IsNear (band_rect r height k)
  band_is_near near =
      record {
        left = near.left;
        right = near.right;
        bottom = omega (arith, ints, near.bottom);
        top = omega (arith, ints, near.top, tall);
      }

-- the bands of a layout are the whole of its rectangle
module _ (l : Layout) (bands : List Stored) (is : IsRect l.rect) (some_rows : 0 < l.band_rows) (have : AreBands l bands) where
  whole_tall : l.rect.y1 +ℤ pos (rows l.rect) ≡ l.rect.y2
  whole_tall = gap_is l.rect.y1 l.rect.y2 (bottom_to_top l.rect is)

  band_within : (k : ℕ) (x y : ℤ) → Holds (band_rect l.rect l.band_rows k) x y → Holds l.rect x y
  band_within k x y inside =
      let place = place_from (band_rect l.rect l.band_rows k) x y inside in
      place_to l.rect x y place.left place.right (omega (arith, ints, place.bottom)) (omega (arith, ints, whole_tall, place.bottom, place.top))

  bands_follow : (k : ℕ) → k + 1 < length bands → (band_rect l.rect l.band_rows (k + 1)).y1 ≡ (band_rect l.rect l.band_rows k).y2
  bands_follow k low =
      let next = rows_apart k (k + 1) l.band_rows (omega arith) in
      let more = suc-mul k l.band_rows in
      let last = rows_apart (k + 1) (length bands) l.band_rows low in
      let up : (k + 1) * l.band_rows ≡ k * l.band_rows + min l.band_rows (rows l.rect - k * l.band_rows) = omega (arith, more, last, have.no_spare) in
      ap (λ n. l.rect.y1 +ℤ pos n) up

  bands_apart : (j k : ℕ) → j < k → (x y : ℤ) → Holds (band_rect l.rect l.band_rows j) x y → Holds (band_rect l.rect l.band_rows k) x y → ⊥
  bands_apart j k low x y here there =
      let below = place_from (band_rect l.rect l.band_rows j) x y here in
      let above = place_from (band_rect l.rect l.band_rows k) x y there in
      absurd (omega (arith, ints, rows_apart j k l.band_rows low, below.top, above.bottom))

  in_a_band : (x y : ℤ) → Holds l.rect x y → (k : ℕ) × (k < length bands) × Holds (band_rect l.rect l.band_rows k) x y
  in_a_band x y inside =
      let place = place_from l.rect x y inside in
      let n = int_gap l.rect.y1 y in
      let k = n / l.band_rows in
      let here = gap_is l.rect.y1 y place.bottom in
      let low : n < rows l.rect = gap_below l.rect.y1 y l.rect.y2 place.bottom place.top in
      let split = div-add-mod' n l.band_rows in
      let over = mod_below n l.band_rows some_rows in (
        k,
        div_below n l.band_rows (length bands) some_rows (omega (arith, low, have.enough)),
        place_to (band_rect l.rect l.band_rows k) x y place.left place.right (omega (arith, ints, here, split)) (omega (arith, ints, here, split, over, low)),
      )

  pub are_whole : AreWhole l bands
  are_whole = record { within = λ k low. band_within k; follow = bands_follow; apart = bands_apart; together = in_a_band }

-- the bounds of a near rectangle, and what lies some rows above them, as the code has them
pub bound_is : (a x : ℤ) → x ≡ a → negsuc 1073741823 ≤ℤ a → a ≤ℤ pos 1073741824 → to_z w64 (of_z w64 x) ≡ a
bound_is a x e low high = ap (λ z. to_z w64 (of_z w64 z)) e ∙ to_z-of_z w64 a (fits_near a low high)

sum_is : (a : ℤ) (n : ℕ) → negsuc 1073741823 ≤ℤ a → a ≤ℤ pos 1073741824 → n < 4294967296 → to_z w64 (of_z w64 (a +ℤ to_z w64 n)) ≡ a +ℤ pos n
sum_is a n low high small = grind (arith, ints)

pub moved_is : (a x : ℤ) (n : ℕ) → x ≡ a → negsuc 1073741823 ≤ℤ a → a ≤ℤ pos 1073741824 → n < 4294967296 → to_z w64 (of_z w64 (to_z w64 (of_z w64 x) +ℤ to_z w64 n)) ≡ a +ℤ pos n
moved_is a x n e low high small = ap (λ z. to_z w64 (of_z w64 (z +ℤ to_z w64 n))) (bound_is a x e low high) ∙ sum_is a n low high small

-- the image that is band k, by its rows
abbrev pub band_of : Stored → ℕ → Raster → Stored
band_of s k own = record { rect = band_rect s.rect s.raster.step k; depth = s.depth; components = s.components; raster = own }

pub band_stored : (s : Stored) (k : ℕ) (own : Raster) → IsStored s → 0 < s.raster.step → k * s.raster.step < rows s.rect → IsBlock s.raster k own → IsStored (band_of s k own)
band_stored s k own is some_rows there block =
    record {
      rect = band_is_rect s.rect s.raster.step k is.rect some_rows there;
      near = band_is_near s.rect s.raster.step k is.rect some_rows there is.near;
      row_count = block.height ∙ ap (λ n. min s.raster.step (n - k * s.raster.step)) is.row_count ∙ sym (rows_of_band s.rect s.raster.step k);
      narrow = rw block.pitch is.narrow;
      row_fits = rw block.pitch is.row_fits;
    }

-- a band shows what its image shows
pub band_shown : (s b : Stored) (k : ℕ) → IsStored s → 0 < s.raster.step → b.rect ≡ band_rect s.rect s.raster.step k → b.depth ≡ s.depth → b.components ≡ s.components
    → ((y : ℕ) → y < s.raster.height → y / s.raster.step ≡ k → row_of s.raster y ≡ row_of b.raster (y % s.raster.step))
    → (x y : ℤ) → within (band_rect s.rect s.raster.step k) x y ≡ true → shown b x y ≡ shown s x y
band_shown s b k is some_rows rect depth components same x y inside =
    let step = s.raster.step in
    let bottom = s.rect.y1 +ℤ pos (k * step) in
    let place = place_from (band_rect s.rect step k) x y inside in
    let j = int_gap bottom y in
    let here = gap_is bottom y place.bottom in
    let tall = gap_is s.rect.y1 s.rect.y2 (bottom_to_top s.rect is.rect) in
    let up = gap_is s.rect.y1 y (omega (arith, ints, place.bottom)) in
    let row : int_gap s.rect.y1 y ≡ k * step + j = omega (arith, ints, here, up) in
    let low : j < step = omega (arith, ints, here, place.top) in
    let low_all : k * step + j < rows s.rect = omega (arith, ints, here, place.top) in
    let whole = place_to s.rect x y place.left place.right (omega (arith, ints, up)) (omega (arith, ints, up, row, tall, low_all)) in
    let bytes : row_of b.raster j ≡ row_of s.raster (int_gap s.rect.y1 y) =
    ap (row_of b.raster) (sym (mod-mul-add k step j low)) ∙ sym (same (k * step + j) (rw is.row_count low_all) (div-mul-add k step j low)) ∙ ap (row_of s.raster) (sym row) in
    rw (rect, depth, components, inside, whole) (ap (λ bytes. pixel_in s.depth s.components bytes (int_gap s.rect.x1 x)) bytes)

-- the bands of s by the rows in `all`, as far as they are made; `rest` are still to come
pub record CutImages (s : Stored) (all rest : List Raster) (bands : List Stored) : Type 0 where
  pub rest_is : drop (length bands) all ≡ rest
  pub few : length bands ≤ length all
  pub made : (k : ℕ) (d : Stored) → k < length bands → slice_index_or bands k d ≡ band_of s k (slice_index_or all k s.raster)

pub made_more : (s : Stored) (all rest rest' : List Raster) (bands : List Stored) (own : Raster) → CutImages s all rest bands → rest ≡ own ∷ rest' → CutImages s all rest' (bands ++ band_of s (length bands) own ∷ [])
made_more s all rest rest' bands own done e =
    let head = head_of all (length bands) own rest' s.raster (done.rest_is ∙ e) in
    let more = length_push bands (band_of s (length bands) own) in
    record {
      rest_is = rw more head.rest_is;
      few = rw more (omega (arith, head.there));
      made = λ k d low. get_push bands _ k d _ (λ h. done.made k d h) (λ q. rw (q, head.is) refl) (rw (sym more) low) (cases_lt k (length bands));
    }

-- the next of the rows is those of a block
pub next_block : (s : Stored) (all rest rest' : List Raster) (bands : List Stored) (own : Raster) → AreBlocks s.raster all → CutImages s all rest bands → rest ≡ own ∷ rest' → IsBlock s.raster (length bands) own × (length bands * s.raster.step < s.raster.height)
next_block s all rest rest' bands own have done e =
    let head = head_of all (length bands) own rest' s.raster (done.rest_is ∙ e) in (
      subst (λ (x : Raster). IsBlock s.raster (length bands) x) head.is (have.each (length bands) s.raster head.there),
      omega (arith, have.no_spare, suc-mul (length bands) s.raster.step, mul-le-mul_right s.raster.step head.there),
    )

fewer : {X : Type 0} (xs : List X) (n : ℕ) → drop n xs ≡ [] → length xs ≤ n
fewer xs n e = omega (arith, length-drop n xs, ap length e)

module _ (s : Stored) (all : List Raster) (bands : List Stored) (is : IsStored s) (some_rows : 0 < s.raster.step) (have : AreBlocks s.raster all) (rows_are : HaveRows s.raster all) (done : CutImages s all [] bands) where
  many : length all ≡ length bands
  many = omega (arith, fewer all (length bands) done.rest_is, done.few)

  pub are_bands : AreBands (layout_of s) bands
  are_bands =
      record {
        enough = rw (← is.row_count, ← many) have.enough;
        no_spare = rw (← is.row_count, ← many) have.no_spare;
        each = λ k d low.
            let block = have.each k s.raster (omega (arith, many)) in
            rw (done.made k d low, block.pitch, block.step) refl;
      }

  pub show_bands : ShowBands s bands
  show_bands k d low x y inside =
      let own = slice_index_or all k s.raster in
      rw (done.made k d low)
      (band_shown s (band_of s k own) k is some_rows refl refl refl (λ j there at. rows_are j s.raster there ∙ ap (λ n. row_of (slice_index_or all n s.raster) (j % s.raster.step)) at) x y inside)

-- `all` are the rows of the bands, as far as they go; `rest` are still to come
pub record JoinImages (bands rest : List Stored) (all : List Raster) : Type 0 where
  pub rest_is : drop (length all) bands ≡ rest
  pub few : length all ≤ length bands
  pub joined : (k : ℕ) (d : Raster) (e : Stored) → k < length all → slice_index_or all k d ≡ (slice_index_or bands k e).raster
  pub stored : (k : ℕ) (e : Stored) → k < length all → IsStored (slice_index_or bands k e)

stored_at : (bands : List Stored) (n k : ℕ) (b e : Stored) → (k < n → IsStored (slice_index_or bands k e)) → slice_index_or bands n e ≡ b → IsStored b → k < n + 1 → (k < n) ⊎ (n ≤ k) → IsStored (slice_index_or bands k e)
stored_at bands n k b e old at is low (inl h) = old h
stored_at bands n k b e old at is low (inr h) = let q : k ≡ n = omega arith in rw (q, at) is

pub taken_more : (bands rest rest' : List Stored) (all : List Raster) (b : Stored) → JoinImages bands rest all → rest ≡ b ∷ rest' → IsStored b → JoinImages bands rest' (all ++ b.raster ∷ [])
taken_more bands rest rest' all b done e is =
    let head = head_of bands (length all) b rest' b (done.rest_is ∙ e) in
    let more = length_push all b.raster in
    record {
      rest_is = rw more head.rest_is;
      few = rw more (omega (arith, head.there));
      joined = λ k d f low. get_push all _ k d _ (λ h. done.joined k d f h) (λ q. rw (q, get_or_default bands (length all) f b head.there, head.is) refl) (rw (sym more) low) (cases_lt k (length all));
      stored = λ k f low. stored_at bands (length all) k b f (done.stored k f) (get_or_default bands (length all) f b head.there ∙ head.is) is (rw (sym more) low) (cases_lt k (length all));
    }

module _ (l : Layout) (bands : List Stored) (all : List Raster) (have : AreBands l bands) (done : JoinImages bands [] all) (e : Stored) where
  all_taken : length bands ≡ length all
  all_taken = omega (arith, fewer bands (length all) done.rest_is, done.few)

  pub are_blocks : AreBlocks (no_rows l.row_bytes (rows l.rect) l.band_rows) all
  are_blocks =
      record {
        enough = rw (← all_taken) have.enough;
        no_spare = rw (← all_taken) have.no_spare;
        each = λ k d low.
            let b = slice_index_or bands k e in
            let layout = have.each k e (omega (arith, all_taken)) in
            rw (done.joined k d e low)
            (record {
              pitch = ap (λ (x : Layout). x.row_bytes) layout;
              step = ap (λ (x : Layout). x.band_rows) layout;
              height = (done.stored k e low).row_count ∙ ap (λ (x : Layout). rows x.rect) layout ∙ rows_of_band l.rect l.band_rows k;
            });
      }

  pub joined_show : (s : Stored) → layout_of s ≡ l → IsStored s → 0 < s.raster.step → HaveRows s.raster all → ShowBands s bands
  joined_show s laid is some_rows rows_are k d low x y inside =
      let b = slice_index_or bands k d in
      let layout = have.each k d low in
      let same : layout_of b ≡ band_layout (layout_of s) k = layout ∙ ap (λ (x : Layout). band_layout x k) (sym laid) in
      band_shown s b k is some_rows (ap (λ (x : Layout). x.rect) same) (ap (λ (x : Layout). x.depth) same) (ap (λ (x : Layout). x.components) same)
      (λ j there at. rows_are j s.raster there ∙ ap (λ n. row_of (slice_index_or all n s.raster) (j % s.raster.step)) at ∙ ap (λ (t : Raster). row_of t (j % s.raster.step)) (done.joined k s.raster d (omega (arith, all_taken))))
      x y inside

-- images of the layouts of bands are bands
pub still_bands : (l : Layout) (bands now : List Stored) → AreBands l bands → length now ≡ length bands → ((k : ℕ) (d : Stored) → k < length bands → layout_of (slice_index_or now k d) ≡ layout_of (slice_index_or bands k d)) → AreBands l now
still_bands l bands now have many same =
    record {
      enough = rw many have.enough;
      no_spare = rw many have.no_spare;
      each = λ k d low. let there : k < length bands = omega (arith, many) in same k d there ∙ have.each k d there;
    }

-- what is written into an image leaves its layout
pub same_layout : (s t : Stored) → SameFrame s t → layout_of t ≡ layout_of s
same_layout s t same = rw (same.rect, same.depth, same.components, same.pitch, same.step) refl
