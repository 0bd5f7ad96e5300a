-- Rows and places of rectangles, and the first piece that has a place.
use Rattle.std.proofs.Common.{◌≡◌, ◌≤◌, ◌<◌, ℕ, ◌+◌, ◌-◌, ◌*◌, ◌⊎◌, inl, inr, zero, suc, ℤ, pos, negsuc, ◌+ℤ◌, ◌≤ℤ◌, ◌<ℤ◌, Bool, true, false, ◌&&◌, if◌then◌else◌, List, [], ◌∷◌, map, length, take, drop, refl, sym, ap, subst, arith, ◌∙◌, w64, to_z, of_z, FitsSigned, get_or, Option, Some, None}
use Rattle.std.specs.Prelude.{IfSome}
use Rattle.std.specs.Int.{int_gap}
use Rattle.std.specs.Int.Signed.{le_z, lt_z}
use Rattle.std.proofs.lemmas.Int.{ints, to_z-of_z}
use Rattle.std.proofs.lemmas.List.{length-take, length-drop, drop_more}
use Rattle.std.proofs.lemmas.List.Elements.{All-head, All-tail}
use Rattle.std.proofs.Math.Nat.{mul-le-mul_right}
use Rattle.fx_base.specs.Bounds.{Bounds, IsRect}
use Rattle.fx_base.specs.Rect.{Holds, within, columns}
use Rattle.fx_pixel.specs.declared.Depth.{Depth}
use Rattle.fx_pixel.specs.declared.Components.{Components}
use Rattle.fx_pixel.specs.declared.Depth.TheVariants.{Byte, Short}
use Rattle.fx_pixel.specs.declared.Components.TheVariants as components
use Rattle.fx_pixel.specs.declared.Pixel.{Pixel}
use Rattle.fx_pixel.specs.declared.Pixel.TheVariants.{Rgba, Alpha}
use Rattle.fx_pixel.specs.Pixel.{zero as zero_pixel, components_of, convert}
use Rattle.fx_image.specs.Stored.{Stored, pixel_size, pixel_in, shown}
use Rattle.fx_image.proofs.PixelLaws.{pixel_of_run, pixel_components}
use Rattle.fx_image.proofs.RowsLaws.{rows_apart}
use Rattle.fx_image.proofs.ImageLaws.{gap_below, gap_up_to, gap_split, place_from, place_to}
use Rattle.fx_effect.specs.Tap.{Tap, tap}
use Rattle.fx_effect.specs.Given.{Keep, AreOne, converted, is_for, holds_tap, image_pixel, piece_pixel, first_pixel}
use Rattle.fx_effect.specs.Rows.{ShowsRow}
use Rattle.fx_effect.specs.Placed.{CoversRow, IsPieceRow, piece_rect, given_piece}
use Rattle.fx_effect.specs.declared.steps.Step.{Step}
use Rattle.fx_effect.specs.declared.piece.Placed.{Placed}

pub is_wide : (r : Bounds) → IsRect r → r.x1 ≤ℤ r.x2
is_wide r (inl is) = let left = ap (λ (b : Bounds). b.x1) is in let right = ap (λ (b : Bounds). b.x2) is in omega (arith, ints)
is_wide r (inr is) = omega (arith, ints, is.0)

pub is_high : (r : Bounds) → IsRect r → r.y1 ≤ℤ r.y2
is_high r (inl is) = let low = ap (λ (b : Bounds). b.y1) is in let high = ap (λ (b : Bounds). b.y2) is in omega (arith, ints)
is_high r (inr is) = omega (arith, ints, is.1)

pub both : (a b : Bool) → a && b ≡ true → (a ≡ true) × (b ≡ true)
both true b h = (refl, h)
both false b h = absurd cc

le_of : (a b : ℤ) → le_z a b ≡ true → a ≤ℤ b
le_of a b h = grind (arith, ints)

lt_of : (a b : ℤ) → lt_z a b ≡ true → a <ℤ b
lt_of a b h = grind (arith, ints)

pub covers_from : (have rect : Bounds) (y : ℤ) → IsRect rect → ((le_z have.x1 rect.x1 && le_z rect.x2 have.x2) && le_z have.y1 y) && lt_z y have.y2 ≡ true → CoversRow have rect y
covers_from have rect y is h =
    let p = both ((le_z have.x1 rect.x1 && le_z rect.x2 have.x2) && le_z have.y1 y) (lt_z y have.y2) h in
    let q = both (le_z have.x1 rect.x1 && le_z rect.x2 have.x2) (le_z have.y1 y) p.0 in
    let s = both (le_z have.x1 rect.x1) (le_z rect.x2 have.x2) q.0 in
    record { left = le_of _ _ s.0; wide = is_wide rect is; right = le_of _ _ s.1; bottom = le_of _ _ q.1; top = lt_of _ _ p.1 }

pub apart_from : (have rect : Bounds) (x y : ℤ) → within rect x y ≡ true → ((lt_z have.x1 rect.x2 && lt_z rect.x1 have.x2) && le_z have.y1 y) && lt_z y have.y2 ≡ false → within have x y ≡ false
apart_from have rect x y inside apart = grind (arith, ints)

pub reaches : (have : Bounds) (reach x y : ℤ) → ((le_z have.x1 reach && lt_z reach have.x2) && le_z have.y1 y) && lt_z y have.y2 ≡ true → reach ≤ℤ x → x <ℤ have.x2 → within have x y ≡ true
reaches have reach x y is from to = grind (arith, ints)

-- a pixel of a row lies in its bytes
pub column_room : (r : Bounds) (x y : ℤ) (size : ℕ) → within r x y ≡ true → int_gap r.x1 x * size + size ≤ columns r * size
column_room r x y size inside = let place = place_from r x y inside in rows_apart (int_gap r.x1 x) (columns r) size (gap_below r.x1 x r.x2 place.left place.right)

-- ---- a row of a rectangle in the row of a wider one

pub row_order : (have rect : Bounds) (y : ℤ) (size : ℕ) → CoversRow have rect y → int_gap have.x1 rect.x1 * size ≤ int_gap have.x1 rect.x2 * size
row_order have rect y size covers = mul-le-mul_right size (gap_up_to have.x1 rect.x1 rect.x2 covers.left covers.wide)

pub row_room : (have rect : Bounds) (y : ℤ) (size : ℕ) → CoversRow have rect y → int_gap have.x1 rect.x2 * size ≤ columns have * size
row_room have rect y size covers = mul-le-mul_right size (gap_up_to have.x1 rect.x2 have.x2 (omega (arith, ints, covers.left, covers.wide)) covers.right)

pub row_long : (have rect : Bounds) (y : ℤ) (size : ℕ) → CoversRow have rect y → int_gap have.x1 rect.x2 * size ≡ int_gap have.x1 rect.x1 * size + columns rect * size
row_long have rect y size covers = rw (gap_split have.x1 rect.x1 rect.x2 covers.left covers.wide) (omega arith)

pub row_length : (have rect : Bounds) (y : ℤ) (size : ℕ) (bytes : List ℕ) → CoversRow have rect y → length bytes ≡ columns have * size
    → length (take (int_gap have.x1 rect.x2 * size - int_gap have.x1 rect.x1 * size) (drop (int_gap have.x1 rect.x1 * size) bytes)) ≡ columns rect * size
row_length have rect y size bytes covers long =
    let room = row_room have rect y size covers in
    let order = row_order have rect y size covers in
    let whole = row_long have rect y size covers in
    rw (length-take, length-drop) (omega arith)

pub row_pixels : (depth : Depth) (c : Components) (have rect : Bounds) (y : ℤ) (f : ℤ → ℤ → Pixel) (bytes : List ℕ) → CoversRow have rect y → ((x : ℤ) → Holds have x y → pixel_in depth c bytes (int_gap have.x1 x) ≡ f x y)
    → ShowsRow depth c rect y f (take (int_gap have.x1 rect.x2 * pixel_size depth c - int_gap have.x1 rect.x1 * pixel_size depth c) (drop (int_gap have.x1 rect.x1 * pixel_size depth c) bytes))
row_pixels depth c have rect y f bytes covers shown x inside =
    let place = place_from rect x y inside in
    let size = pixel_size depth c in
    let low : int_gap rect.x1 x < columns rect = gap_below rect.x1 x rect.x2 place.left place.right in
    let room = rows_apart (int_gap rect.x1 x) (columns rect) size low in
    let whole = row_long have rect y size covers in
    let there = place_to have x y (omega (arith, ints, covers.left, place.left)) (omega (arith, ints, covers.right, place.right)) covers.bottom covers.top in
    pixel_of_run depth c bytes (int_gap have.x1 rect.x2 * size - int_gap have.x1 rect.x1 * size) (int_gap have.x1 rect.x1) (int_gap rect.x1 x) (omega (arith, room, whole))
    ∙ ap (pixel_in depth c bytes) (sym (gap_split have.x1 rect.x1 x covers.left place.left)) ∙ shown x there

-- ---- tests

pub and_false : (a b : Bool) → b ≡ false → a && b ≡ false
and_false true b h = h
and_false false b h = refl

pub and_both : (a b : Bool) → a ≡ true → b ≡ true → a && b ≡ true
and_both a b p q = rw (p, q) refl

-- ---- pixels that need no conversion

pub same_pixel : (d : Depth) (p : Pixel) → convert d d (components_of p) p ≡ p
same_pixel Byte (Rgba r g b a) = refl
same_pixel Byte (Alpha a) = refl
same_pixel Short (Rgba r g b a) = refl
same_pixel Short (Alpha a) = refl

pub kept_through : (d : Depth) (p : Pixel) (steps : List Step) → Keep d (components_of p) steps → converted d steps d (components_of p) p ≡ p
kept_through d p [] keep = same_pixel d p
kept_through d p (s ∷ steps) keep =
    let k = components_of p in
    let first = All-head (λ (z : Step). (z.depth ≡ d) × (z.components ≡ k)) s steps keep in
    let rest = kept_through d p steps (All-tail (λ (z : Step). (z.depth ≡ d) × (z.components ≡ k)) s steps keep) in
    let here : converted s.depth steps d k (convert d s.depth s.components p) ≡ converted d steps d k (convert d d k p) =
    (λ i. converted (first.0 i) steps d k (convert d (first.0 i) (first.1 i) p)) in
    here ∙ ap (converted d steps d k) (same_pixel d p) ∙ rest

components_converted : (from to : Depth) (c : Components) (p : Pixel) → components_of (convert from to c p) ≡ c
components_converted from to components.Rgba (Rgba r g b a) = refl
components_converted from to components.Rgba (Alpha a) = refl
components_converted from to components.Alpha (Rgba r g b a) = refl
components_converted from to components.Alpha (Alpha a) = refl

-- conversions to what a last one gives
all_last : (from to : Depth) (c : Components) (p : Pixel) (steps : List Step) → Keep to c steps → converted from steps to c p ≡ convert from to c p
all_last from to c p [] keep = refl
all_last from to c p (s ∷ steps) keep =
    let first = All-head (λ (z : Step). (z.depth ≡ to) × (z.components ≡ c)) s steps keep in
    let rest = All-tail (λ (z : Step). (z.depth ≡ to) × (z.components ≡ c)) s steps keep in
    let q = convert from to c p in
    let here : converted s.depth steps to c (convert from s.depth s.components p) ≡ converted to steps to c q =
    (λ i. converted (first.0 i) steps to c (convert from (first.0 i) (first.1 i) p)) in
    here ∙ subst (λ (k : Components). Keep to k steps → converted to steps to k q ≡ q) (components_converted from to c p) (kept_through to q steps) rest

-- conversions of which some keep the pixel, and those behind convert to what the last one gives
pub one_conversion : (from : Depth) (seen : Components) (to : Depth) (c : Components) (n : ℕ) (steps : List Step) → Keep from seen (take n steps) → Keep to c (drop n steps) → AreOne from seen to c steps
one_conversion from seen to c zero steps first rest p is = all_last from to c p steps rest
one_conversion from seen to c (suc n) [] first rest p is = refl
one_conversion from seen to c (suc n) (s ∷ steps) first rest p is =
    let head = All-head (λ (z : Step). (z.depth ≡ from) × (z.components ≡ seen)) s (take n steps) first in
    let tail = All-tail (λ (z : Step). (z.depth ≡ from) × (z.components ≡ seen)) s (take n steps) first in
    let here : converted s.depth steps to c (convert from s.depth s.components p) ≡ converted from steps to c (convert from from seen p) =
    (λ i. converted (head.0 i) steps to c (convert from (head.0 i) (head.1 i) p)) in
    let same : convert from from seen p ≡ p = ap (λ k. convert from from k p) (sym is) ∙ same_pixel from p in
    here ∙ ap (converted from steps to c) same ∙ one_conversion from seen to c n steps tail rest p is

components_zero : (c : Components) → components_of (zero_pixel c) ≡ c
components_zero components.Rgba = refl
components_zero components.Alpha = refl

pub components_shown : (s : Stored) (x y : ℤ) → components_of (shown s x y) ≡ s.components
components_shown s x y = go (within s.rect x y) refl
  where
    go : (b : Bool) → within s.rect x y ≡ b → components_of (shown s x y) ≡ s.components
    go true is = rw is (pixel_components s.depth s.components _ _)
    go false is = rw is (components_zero s.components)

pub not_converted : (depth : Depth) (c : Components) (s : Stored) (through : List Step) (x y : ℤ) → s.depth ≡ depth → s.components ≡ c → Keep s.depth s.components through → image_pixel depth c s through x y ≡ shown s x y
not_converted depth c s through x y deep samples keep =
    let p = shown s x y in
    rw (← deep, ← samples)
    (subst (λ (k : Components). Keep s.depth k through → converted s.depth through s.depth k p ≡ p) (components_shown s x y) (kept_through s.depth p through) keep)

-- ---- the first piece that has a place

pub first_here : (depth : Depth) (c : Components) (pieces : List Placed) (i : ℕ) (p : Placed) (t : Tap) → i < length pieces → p ≡ get_or pieces i p → holds_tap (given_piece p) t ≡ true
    → first_pixel depth c (map given_piece (drop i pieces)) t ≡ piece_pixel depth c (given_piece p) t.x t.y
first_here depth c pieces i p t low e h = rw (drop_more pieces i p low, ← e, h) refl

pub first_next : (depth : Depth) (c : Components) (pieces : List Placed) (i : ℕ) (p : Placed) (t : Tap) → i < length pieces → p ≡ get_or pieces i p → holds_tap (given_piece p) t ≡ false
    → first_pixel depth c (map given_piece (drop (i + 1) pieces)) t ≡ first_pixel depth c (map given_piece (drop i pieces)) t
first_next depth c pieces i p t low e h = rw (drop_more pieces i p low, ← e, h) refl

-- pieces that don't have the place, before some others and behind them, are not seen there
pub first_of_near : (depth : Depth) (c : Components) (pieces : List Placed) (from count : ℕ) (t : Tap)
    → ((j : ℕ) (d : Placed) → j < length pieces → (j < from) ⊎ (from + count ≤ j) → holds_tap (given_piece (get_or pieces j d)) t ≡ false)
    → first_pixel depth c (map given_piece (take count (drop from pieces))) t ≡ first_pixel depth c (map given_piece pieces) t
first_of_near depth c [] zero zero t apart = refl
first_of_near depth c [] zero (suc n) t apart = refl
first_of_near depth c [] (suc k) zero t apart = refl
first_of_near depth c [] (suc k) (suc n) t apart = refl
first_of_near depth c (p ∷ pieces) zero zero t apart =
    let rest = first_of_near depth c pieces zero zero t (λ j d low out. apart (suc j) d (omega (arith, low)) (inr (omega arith))) in
    rw (apart 0 p (omega arith) (inr (omega arith))) rest
first_of_near depth c (p ∷ pieces) zero (suc n) t apart =
    let rest = first_of_near depth c pieces zero n t (λ j d low out. apart (suc j) d (omega (arith, low)) (later j out)) in
    go (holds_tap (given_piece p) t) rest
  where
    later : (j : ℕ) → (j < 0) ⊎ (0 + n ≤ j) → (suc j < 0) ⊎ (0 + suc n ≤ suc j)
    later j (inl low) = absurd (omega (arith, low))
    later j (inr high) = inr (omega (arith, high))

    go : (b : Bool) → first_pixel depth c (map given_piece (take n pieces)) t ≡ first_pixel depth c (map given_piece pieces) t
        → (if b then piece_pixel depth c (given_piece p) t.x t.y else first_pixel depth c (map given_piece (take n pieces)) t)
        ≡ (if b then piece_pixel depth c (given_piece p) t.x t.y else first_pixel depth c (map given_piece pieces) t)
    go true rest = refl
    go false rest = rest
first_of_near depth c (p ∷ pieces) (suc k) n t apart =
    let rest = first_of_near depth c pieces k n t (λ j d low out. apart (suc j) d (omega (arith, low)) (later j out)) in
    rw (apart 0 p (omega arith) (inl (omega arith))) rest
  where
    later : (j : ℕ) → (j < k) ⊎ (k + n ≤ j) → (suc j < suc k) ⊎ (suc k + n ≤ suc j)
    later j (inl low) = inl (omega (arith, low))
    later j (inr high) = inr (omega (arith, high))

-- ---- where the bytes of a row lie

pub record RowSpan (have rect : Bounds) (size from to n : ℕ) : Type 0 where
  pub starts : from ≡ int_gap have.x1 rect.x1
  pub ends : to ≡ int_gap have.x1 rect.x2
  pub order : from * size ≤ to * size
  pub room : to * size ≤ n

pub span_of : (have rect : Bounds) (y a b d : ℤ) (size from to n : ℕ) → FitsSigned w64 a → FitsSigned w64 b → FitsSigned w64 d → a ≡ have.x1 → b ≡ rect.x1 → d ≡ rect.x2
    → from ≡ int_gap (to_z w64 (of_z w64 a)) (to_z w64 (of_z w64 b)) → to ≡ int_gap (to_z w64 (of_z w64 a)) (to_z w64 (of_z w64 d)) → CoversRow have rect y → n ≡ columns have * size → RowSpan have rect size from to n
span_of have rect y a b d size from to n fa fb fd left start end from_is to_is covers long =
    let x : to_z w64 (of_z w64 a) ≡ have.x1 = to_z-of_z w64 a fa ∙ left in
    let starts : from ≡ int_gap have.x1 rect.x1 = from_is ∙ rw (x, to_z-of_z w64 b fb ∙ start) refl in
    let ends : to ≡ int_gap have.x1 rect.x2 = to_is ∙ rw (x, to_z-of_z w64 d fd ∙ end) refl in
    record {
      starts = starts;
      ends = ends;
      order = rw (starts, ends) (row_order have rect y size covers);
      room = rw (ends, long) (row_room have rect y size covers);
    }

pub covered : (have rect : Bounds) (x y : ℤ) → CoversRow have rect y → within rect x y ≡ true → within have x y ≡ true
covered have rect x y covers inside =
    let place = place_from rect x y inside in
    place_to have x y (omega (arith, ints, covers.left, place.left)) (omega (arith, ints, covers.right, place.right)) covers.bottom covers.top

-- the row of the first piece that has a place of it
pub row_here : (depth : Depth) (c : Components) (pieces : List Placed) (i : ℕ) (p : Placed) (clip : ℕ) (frame : ℤ) (rect : Bounds) (y : ℤ) (bytes : List ℕ) → i < length pieces → p ≡ get_or pieces i p → is_for (given_piece p) clip frame ≡ true
    → IsPieceRow depth c (piece_rect p.piece) rect y (piece_pixel depth c (given_piece p)) bytes
    → ((x : ℤ) → Holds rect x y → first_pixel depth c (map given_piece (drop i pieces)) (tap clip frame x y) ≡ first_pixel depth c (map given_piece pieces) (tap clip frame x y))
    → ShowsRow depth c rect y (λ x y. first_pixel depth c (map given_piece pieces) (tap clip frame x y)) bytes
row_here depth c pieces i p clip frame rect y bytes low e same row before x inside =
    let has = covered (piece_rect p.piece) rect x y row.covers inside in
    row.pixels x inside ∙ sym (first_here depth c pieces i p (tap clip frame x y) low e (and_both _ _ same has)) ∙ before x inside

pub if_some : {A : Type 0} (o : Option A) (P Q : A → Type 0) → ((v : A) → P v → Q v) → IfSome o P → IfSome o Q
if_some None P Q h p = tt
if_some (Some v) P Q h p = h v p

pub nil_of : {A : Type 0} (xs : List A) → length xs ≡ 0 → xs ≡ []
nil_of [] e = refl
nil_of (x ∷ xs) e = absurd (omega arith)

-- a column within a rectangle, as the code counts it
pub column_is : (x1 x2 left : ℤ) (i : ℕ) → negsuc 1073741823 ≤ℤ x1 → x2 ≤ℤ pos 1073741824 → left ≡ x1 → x1 +ℤ pos (int_gap x1 x2) ≡ x2 → i < int_gap x1 x2 → to_z w64 (of_z w64 (left +ℤ to_z w64 i)) ≡ x1 +ℤ pos i
column_is x1 x2 left i low high same whole below = omega (arith, ints)

-- it fits a word, and its place in the row too
pub column_fits : (x1 x2 left : ℤ) (i : ℕ) → negsuc 1073741823 ≤ℤ x1 → x2 ≤ℤ pos 1073741824 → left ≡ x1 → x1 +ℤ pos (int_gap x1 x2) ≡ x2 → i < int_gap x1 x2 → FitsSigned w64 (left +ℤ to_z w64 i)
column_fits x1 x2 left i low high same whole below = omega (arith, ints)

pub place_fits : (x1 x2 : ℤ) (i : ℕ) → negsuc 1073741823 ≤ℤ x1 → x2 ≤ℤ pos 1073741824 → x1 +ℤ pos (int_gap x1 x2) ≡ x2 → i < int_gap x1 x2 → FitsSigned w64 (pos i)
place_fits x1 x2 i low high whole below = omega (arith, ints)
