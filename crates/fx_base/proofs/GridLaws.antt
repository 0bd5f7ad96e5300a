-- Which tiles a grid's list has: those that hold a place of the rectangle, each once.
use Rattle.std.specs.Prelude.{◌≡◌, ℕ, zero, suc, ◌<◌, ◌≤◌, ◌+◌, ◌*◌, ◌/◌, ℤ, pos, negsuc, ◌<ℤ◌, ◌≤ℤ◌, ◌+ℤ◌, ◌-ℤ◌, ◌*ℤ◌, neg_ℤ, true, false, List, [], ◌∷◌, ◌++◌, map, All, AllPairs, refl}
use Rattle.std.specs.Int.{int_gap}
use Rattle.std.specs.List.{Contains, flat_map}
use Rattle.std.proofs.Common.{inl, inr, ⊎_elim, sym, subst, ap, arith, ◌∙◌, append_assoc, append-nil}
use Rattle.std.proofs.Math.IntN.{suc_ℤ, suc_ℤ-*ℤ}
use Rattle.std.proofs.Math.Nat.{div-mul-le_self, mod-lt}
use Rattle.std.proofs.lemmas.Bool.{cases_Bool}
use Rattle.std.proofs.lemmas.Int.{ints}
use Rattle.std.proofs.lemmas.Nat.{div-add-mod'}
use Rattle.std.proofs.lemmas.List.Elements.{All-nil, All-map, All-contains}
use Rattle.fx_base.specs.Bounds.{Bounds, IsRect}
use Rattle.fx_base.specs.Rect.{Holds, is_empty}
use Rattle.fx_base.specs.Run.{int_run, int_range}
use Rattle.fx_base.specs.Grid.{tile_at, tile_of, tiles_between, tiles_in_rows, tiles_of, IsTileOf, IsBefore}
use Rattle.fx_base.proofs.RectLaws.{gap_is}
use Rattle.fx_base.proofs.RunLaws.{order, AllPairs-nil, AllPairs-cons, AllPairs-append, Contains-range, Contains-map, Contains-flat_map, int_range-step, int_range-end, All-run, All-range, All-flat_map}
use Rattle.fx_base.proofs.RectLemmas.{IsInside-from_holds, Holds-from_inside, IsProper-from_test, is_empty-holds}

-- ---- products by a side

suc_is : (a : ℤ) → a +ℤ pos 1 ≡ suc_ℤ a
suc_is (pos n) = omega (arith, ints)
suc_is (negsuc zero) = refl
suc_is (negsuc (suc n)) = omega (arith, ints)

pub next_product : (side : ℕ) (a : ℤ) → (a +ℤ pos 1) *ℤ pos side ≡ (a *ℤ pos side) +ℤ pos side
next_product side a = ap (λ b. b *ℤ pos side) (suc_is a) ∙ suc_ℤ-*ℤ a (pos side)

product_more : (side : ℕ) (a : ℤ) (n : ℕ) → (a *ℤ pos side) ≤ℤ ((a +ℤ pos n) *ℤ pos side)
product_more side a zero = let e : a +ℤ pos 0 ≡ a = omega (arith, ints) in rw e (omega (arith, ints))
product_more side a (suc n) =
    let e : a +ℤ pos (suc n) ≡ (a +ℤ pos n) +ℤ pos 1 = omega (arith, ints) in
    let next = next_product side (a +ℤ pos n) in
    let rest = product_more side a n in
    rw e (omega (arith, ints))

pub product_rises : (side : ℕ) (a b : ℤ) → a ≤ℤ b → (a *ℤ pos side) ≤ℤ (b *ℤ pos side)
product_rises side a b le = subst (λ c. (a *ℤ pos side) ≤ℤ (c *ℤ pos side)) (gap_is a b le) (product_more side a (int_gap a b))

-- ---- floors of quotients by a side

neg_cancels : (m n : ℕ) → m ≡ n → neg_ℤ (pos m) +ℤ pos n ≡ pos 0
neg_cancels zero n e = omega (arith, ints)
neg_cancels (suc m) n e = omega (arith, ints)

neg_product : (q s : ℕ) → (negsuc q *ℤ pos s) +ℤ pos (q * s + s) ≡ pos 0
neg_product q s = neg_cancels (suc q * s) (q * s + s) (omega arith)

low_at : (s q n : ℕ) → n < q * s + s → (negsuc q *ℤ pos s) ≤ℤ negsuc n
low_at s q n h = let e = neg_product q s in omega (arith, ints)

high_at : (s q n : ℕ) → q * s ≤ n → negsuc n <ℤ ((negsuc q *ℤ pos s) +ℤ pos s)
high_at s q n h = let e = neg_product q s in omega (arith, ints)

pub tile_of-low : (side : ℕ) (x : ℤ) → 0 < side → (tile_of side x *ℤ pos side) ≤ℤ x
tile_of-low s (pos n) h = let a = div-mul-le_self n s in omega (arith, ints)
tile_of-low s (negsuc n) h = let a = div-add-mod' n s in let b = mod-lt n h in low_at s (n / s) n (omega arith)

pub tile_of-high : (side : ℕ) (x : ℤ) → 0 < side → x <ℤ ((tile_of side x *ℤ pos side) +ℤ pos side)
tile_of-high s (pos n) h = let a = div-add-mod' n s in let b = mod-lt n h in omega (arith, ints)
tile_of-high s (negsuc n) h = let a = div-mul-le_self n s in high_at s (n / s) n a

apart : (side : ℕ) (x a b : ℤ) → (a *ℤ pos side) ≤ℤ x → x <ℤ ((b *ℤ pos side) +ℤ pos side) → a ≤ℤ b
apart side x a b low high = elim (order a b) [
  | inl le ↦ le
  | inr above ↦ let far = product_rises side (b +ℤ pos 1) a above in let next = next_product side b in absurd (omega (arith, ints))
]

pub tile_of-rises : (side : ℕ) (x y : ℤ) → 0 < side → x ≤ℤ y → tile_of side x ≤ℤ tile_of side y
tile_of-rises side x y some le =
    let low = tile_of-low side x some in
    let high = tile_of-high side y some in
    apart side y (tile_of side x) (tile_of side y) (omega (arith, ints)) high

pub tile_of-only : (side : ℕ) (x a : ℤ) → 0 < side → (a *ℤ pos side) ≤ℤ x → x <ℤ ((a *ℤ pos side) +ℤ pos side) → tile_of side x ≡ a
tile_of-only side x a some low high =
    let up = apart side x a (tile_of side x) low (tile_of-high side x some) in
    let down = apart side x (tile_of side x) a (tile_of-low side x some) high in
    omega (arith, ints)

-- ---- the tile of a place

-- four numbers that are the bounds of a tile
pub tile_made : (side : ℕ) (i j x1 y1 x2 y2 : ℤ) → x1 ≡ i *ℤ pos side → y1 ≡ j *ℤ pos side → x2 ≡ (i *ℤ pos side) +ℤ pos side → y2 ≡ (j *ℤ pos side) +ℤ pos side → record { x1 = x1; y1 = y1; x2 = x2; y2 = y2 } ≡ tile_at side i j
tile_made side i j x1 y1 x2 y2 left bottom right top = rw (left, bottom, right, top) refl

pub Holds-tile_at : (side : ℕ) (x y : ℤ) → 0 < side → Holds (tile_at side (tile_of side x) (tile_of side y)) x y
Holds-tile_at side x y some = Holds-from_inside (tile_at side (tile_of side x) (tile_of side y)) x y (record {
  left = tile_of-low side x some;
  right = tile_of-high side x some;
  bottom = tile_of-low side y some;
  top = tile_of-high side y some;
})

pub IsRect-tile_at : (side : ℕ) (i j : ℤ) → 0 < side → IsRect (tile_at side i j)
IsRect-tile_at side i j some = inr (omega (arith, ints), omega (arith, ints))

-- it is the only tile that holds the place
pub tile_at-only : (side : ℕ) (i j x y : ℤ) → 0 < side → Holds (tile_at side i j) x y → tile_at side i j ≡ tile_at side (tile_of side x) (tile_of side y)
tile_at-only side i j x y some held =
    let inside = IsInside-from_holds (tile_at side i j) x y held in
    let column = tile_of-only side x i some inside.left inside.right in
    let row = tile_of-only side y j some inside.bottom inside.top in
    rw (column, row) refl

some_place : (r : Bounds) (x y : ℤ) → Holds r x y → is_empty r ≡ false
some_place r x y held = ⊎_elim (λ empty. absurd (is_empty-holds r x y empty held)) (λ some. some) (cases_Bool (is_empty r))

-- the columns of tiles that r has places in
abbrev left_of : ℕ → Bounds → ℤ
left_of side r = tile_of side r.x1

abbrev right_of : ℕ → Bounds → ℤ
right_of side r = tile_of side (r.x2 -ℤ pos 1) +ℤ pos 1

abbrev row_of : ℕ → Bounds → ℤ → List Bounds
row_of side r j = tiles_between side j (left_of side r) (right_of side r)

-- the tile of a place of r is listed
pub Contains-tiles_of : (side : ℕ) (r : Bounds) (x y : ℤ) → 0 < side → Holds r x y → Contains (tiles_of side r) (tile_at side (tile_of side x) (tile_of side y))
unfolding tiles_of
Contains-tiles_of side r x y some held =
    let inside = IsInside-from_holds r x y held in
    let right = tile_of-rises side x (r.x2 -ℤ pos 1) some (omega (arith, ints)) in
    let top = tile_of-rises side y (r.y2 -ℤ pos 1) some (omega (arith, ints)) in
    rw (some_place r x y held)
    (Contains-flat_map (row_of side r) (int_range (tile_of side r.y1) (tile_of side (r.y2 -ℤ pos 1) +ℤ pos 1)) (tile_of side y) (tile_at side (tile_of side x) (tile_of side y))
    (Contains-range (tile_of side r.y1) (tile_of side (r.y2 -ℤ pos 1) +ℤ pos 1) (tile_of side y) (tile_of-rises side r.y1 y some inside.bottom) (omega (arith, ints)))
    (Contains-map (λ i. tile_at side i (tile_of side y)) (int_range (left_of side r) (right_of side r)) (tile_of side x)
    (Contains-range (left_of side r) (right_of side r) (tile_of side x) (tile_of-rises side r.x1 x some inside.left) (omega (arith, ints)))))

-- ---- what the list has

-- a place of r in the same column or row of tiles as any between the ends
shared : (side : ℕ) (low high i : ℤ) → 0 < side → low <ℤ high → tile_of side low ≤ℤ i → i ≤ℤ tile_of side (high -ℤ pos 1) → (x : ℤ) × (low ≤ℤ x) × (x <ℤ high) × ((i *ℤ pos side) ≤ℤ x) × (x <ℤ ((i *ℤ pos side) +ℤ pos side))
shared side low high i some wide first last =
    let far = product_rises side i (tile_of side (high -ℤ pos 1)) last in
    let top = tile_of-low side (high -ℤ pos 1) some in
    let near = product_rises side (tile_of side low) i first in
    let bottom = tile_of-high side low some in
    elim (order low (i *ℤ pos side)) [
      | inl inside ↦ (i *ℤ pos side, inside, omega (arith, ints), omega (arith, ints), omega (arith, ints))
      | inr outside ↦ (low, omega (arith, ints), wide, omega (arith, ints), omega (arith, ints))
    ]

is_tile : (side : ℕ) (r : Bounds) (i j : ℤ) → 0 < side → r.x1 <ℤ r.x2 → r.y1 <ℤ r.y2 → tile_of side r.y1 ≤ℤ j → j ≤ℤ tile_of side (r.y2 -ℤ pos 1) → tile_of side r.x1 ≤ℤ i → i ≤ℤ tile_of side (r.x2 -ℤ pos 1) → IsTileOf side r (tile_at side i j)
is_tile side r i j some wide high bottom top left right =
    let column = shared side r.x1 r.x2 i some wide left right in
    let row = shared side r.y1 r.y2 j some high bottom top in
    record {
      column = i;
      row = j;
      is = refl;
      x = column.0;
      y = row.0;
      in_tile = Holds-from_inside (tile_at side i j) column.0 row.0 (record { left = column.3; right = column.4; bottom = row.3; top = row.4 });
      in_rect = Holds-from_inside r column.0 row.0 (record { left = column.1; right = column.2; bottom = row.1; top = row.2 });
    }

-- each tile that is listed holds a place of r
pub All-tiles_of : (side : ℕ) (r : Bounds) → 0 < side → All (IsTileOf side r) (tiles_of side r)
unfolding tiles_of
All-tiles_of side r some =
    elim (cases_Bool (is_empty r)) [
      | inl empty ↦ rw empty (All-nil (IsTileOf side r))
      | inr proper ↦
          let bounds = IsProper-from_test r proper in
          rw proper
          (All-flat_map (IsTileOf side r) (row_of side r) (int_range (tile_of side r.y1) (tile_of side (r.y2 -ℤ pos 1) +ℤ pos 1))
          (All-range (λ j. All (IsTileOf side r) (row_of side r j)) (tile_of side r.y1) (tile_of side (r.y2 -ℤ pos 1) +ℤ pos 1) (λ j bottom top.
          All-map (IsTileOf side r) (λ i. tile_at side i j) (int_range (left_of side r) (right_of side r))
          (All-range (λ i. IsTileOf side r (tile_at side i j)) (left_of side r) (right_of side r) (λ i left right.
          is_tile side r i j some bounds.wide bounds.high bottom (omega (arith, ints)) left (omega (arith, ints)))))))
    ]

-- a rectangle is listed exactly where it is a tile that holds a place of r
pub Contains-from_tile : (side : ℕ) (r tile : Bounds) → 0 < side → IsTileOf side r tile → Contains (tiles_of side r) tile
Contains-from_tile side r tile some is =
    let here : Holds (tile_at side is.column is.row) is.x is.y = subst (λ b. Holds b is.x is.y) is.is is.in_tile in
    subst (Contains (tiles_of side r)) (sym (is.is ∙ tile_at-only side is.column is.row is.x is.y some here)) (Contains-tiles_of side r is.x is.y some is.in_rect)

pub IsTileOf-listed : (side : ℕ) (r tile : Bounds) → 0 < side → Contains (tiles_of side r) tile → IsTileOf side r tile
IsTileOf-listed side r tile some listed = All-contains (IsTileOf side r) (tiles_of side r) tile (All-tiles_of side r some) listed

-- ---- the order of the list

-- the tiles of a row from column a on
pub row_rises : (side : ℕ) (j a : ℤ) (n : ℕ) → 0 < side → AllPairs IsBefore (map (λ i. tile_at side i j) (int_run a n))
row_rises side j a zero some = AllPairs-nil IsBefore
row_rises side j a (suc n) some =
    AllPairs-cons IsBefore (tile_at side a j) (map (λ i. tile_at side i j) (int_run (a +ℤ pos 1) n))
    (All-map (IsBefore (tile_at side a j)) (λ i. tile_at side i j) (int_run (a +ℤ pos 1) n)
    (All-run (λ i. IsBefore (tile_at side a j) (tile_at side i j)) (a +ℤ pos 1) n (λ i low high.
    let next = next_product side a in
    let far = product_rises side (a +ℤ pos 1) i low in
    inr (refl, omega (arith, ints)))))
    (row_rises side j (a +ℤ pos 1) n some)

rows_above : (side : ℕ) (r : Bounds) (j a : ℤ) (n : ℕ) → 0 < side → (j +ℤ pos 1) ≤ℤ a → All (λ first. All (IsBefore first) (flat_map (row_of side r) (int_run a n))) (row_of side r j)
rows_above side r j a n some above =
    let columns = int_range (left_of side r) (right_of side r) in
    All-map (λ first. All (IsBefore first) (flat_map (row_of side r) (int_run a n))) (λ i. tile_at side i j) columns
    (All-range (λ i. All (IsBefore (tile_at side i j)) (flat_map (row_of side r) (int_run a n))) (left_of side r) (right_of side r) (λ i left right.
    All-flat_map (IsBefore (tile_at side i j)) (row_of side r) (int_run a n)
    (All-run (λ row. All (IsBefore (tile_at side i j)) (row_of side r row)) a n (λ row low high.
    All-map (IsBefore (tile_at side i j)) (λ column. tile_at side column row) columns
    (All-range (λ column. IsBefore (tile_at side i j) (tile_at side column row)) (left_of side r) (right_of side r) (λ column from to.
    let next = next_product side j in
    let far = product_rises side (j +ℤ pos 1) row (omega (arith, ints)) in
    inl (omega (arith, ints))))))))

rows_rise : (side : ℕ) (r : Bounds) (a : ℤ) (n : ℕ) → 0 < side → AllPairs IsBefore (flat_map (row_of side r) (int_run a n))
rows_rise side r a zero some = AllPairs-nil IsBefore
rows_rise side r a (suc n) some =
    AllPairs-append IsBefore (row_of side r a) (flat_map (row_of side r) (int_run (a +ℤ pos 1) n))
    (row_rises side a (left_of side r) (int_gap (left_of side r) (right_of side r)) some)
    (rows_rise side r (a +ℤ pos 1) n some)
    (rows_above side r a (a +ℤ pos 1) n some (omega (arith, ints)))

pub tiles_rise : (side : ℕ) (r : Bounds) → 0 < side → AllPairs IsBefore (tiles_of side r)
unfolding tiles_of
tiles_rise side r some =
    let bottom = tile_of side r.y1 in
    let top = tile_of side (r.y2 -ℤ pos 1) +ℤ pos 1 in
    elim (cases_Bool (is_empty r)) [
      | inl empty ↦ rw empty (AllPairs-nil IsBefore)
      | inr proper ↦ rw proper (rows_rise side r bottom (int_gap bottom top) some)
    ]

-- ---- the loops of the code

-- one more tile in a row
pub row_step : (side : ℕ) (i j next end i' j' : ℤ) (tile : Bounds) (before after : List Bounds) → i <ℤ end → next ≡ i +ℤ pos 1 → i' ≡ i → j' ≡ j → tile ≡ tile_at side i' j' → after ≡ before ++ tile ∷ [] → after ++ tiles_between side j next end ≡ before ++ tiles_between side j i end
row_step side i j next end i' j' tile before after lt is column row made pushed =
    rw (is, pushed, made, column, row)
    (append_assoc before (tile_at side i j ∷ []) (tiles_between side j (i +ℤ pos 1) end)
    ∙ ap (λ is. before ++ map (λ i. tile_at side i j) is) (sym (int_range-step i end lt)))

-- one more row
pub rows_step : (side : ℕ) (r : Bounds) (j next end j' left right : ℤ) (before after : List Bounds) → j <ℤ end → next ≡ j +ℤ pos 1 → j' ≡ j → left ≡ left_of side r → right ≡ right_of side r → after ≡ before ++ tiles_between side j' left right → after ++ tiles_in_rows side r next end ≡ before ++ tiles_in_rows side r j end
rows_step side r j next end j' left right before after lt is row from to pushed =
    rw (is, pushed, row, from, to)
    (append_assoc before (row_of side r j) (tiles_in_rows side r (j +ℤ pos 1) end)
    ∙ ap (λ js. before ++ flat_map (row_of side r) js) (sym (int_range-step j end lt)))

-- no row is left at the end
pub rows_end : (side : ℕ) (r : Bounds) (j end : ℤ) (all : List Bounds) → end ≤ℤ j → all ++ tiles_in_rows side r j end ≡ all
rows_end side r j end all past = ap (λ js. all ++ flat_map (row_of side r) js) (int_range-end j end past) ∙ append-nil all

pub tiles_of-empty : (side : ℕ) (r : Bounds) → is_empty r ≡ true → tiles_of side r ≡ []
unfolding tiles_of
tiles_of-empty side r empty = rw empty refl

-- the rows of a rectangle that holds a place
pub tiles_of-proper : (side : ℕ) (r : Bounds) (bottom top : ℤ) → is_empty r ≡ false → bottom ≡ tile_of side r.y1 → top ≡ tile_of side (r.y2 -ℤ pos 1) +ℤ pos 1 → tiles_in_rows side r bottom top ≡ tiles_of side r
unfolding tiles_of
tiles_of-proper side r bottom top some from to = rw (some, from, to) refl
