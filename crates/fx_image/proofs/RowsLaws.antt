-- Where rows lie in their block, and what is read after a run was written.
use Rattle.std.proofs.Common.{ℕ, ◌≡◌, ◌≤◌, ◌<◌, ◌+◌, ◌-◌, ◌*◌, ◌/◌, ◌%◌, List, [], length, take, drop, slice_index_or, slice_set, sym, ap, rules, arith, ◌∙◌, ◌≢◌, ◌⊎◌, inl, inr}
use Rattle.std.proofs.Math.Nat.{suc-mul, mul-le-mul_right}
use Rattle.std.proofs.lemmas.Bool.{cases_eq, cases_order}
use Rattle.std.proofs.lemmas.Nat.{mod_below, div-add-mod'}
use Rattle.std.proofs.lemmas.List.{get_or-set_same, get_or-set_other, places, same_lists, get_or_read}
use Rattle.fx_image.specs.Rows.{Raster, row_of, block_of, start_of, written, with_run, HasRows}

pub row_fits : (y step pitch : ℕ) → 0 < step → (y % step) * pitch + pitch ≤ step * pitch
row_fits y step pitch h = omega (arith, suc-mul (y % step) pitch, mul-le-mul_right pitch (mod_below y step h))

pub run_read : (xs : List ℕ) (start pitch from to : ℕ) → from ≤ to → to ≤ pitch → take ((start + to) - (start + from)) (drop (start + from) xs) ≡ take (to - from) (drop from (take pitch (drop start xs)))
run_read xs start pitch from to p q = same_lists _ _ (search (rules, places)) (λ k d h. grind (arith, places))

pub written_within : (xs : List ℕ) (start pitch from : ℕ) (ws : List ℕ) → start + pitch ≤ length xs → from + length ws ≤ pitch → take pitch (drop start (written xs (start + from) ws)) ≡ written (take pitch (drop start xs)) from ws
written_within xs start pitch from ws p q = same_lists _ _ (search (rules, places)) (λ k d h. grind (arith, places))

pub written_below : (xs : List ℕ) (at pitch from : ℕ) (ws : List ℕ) → from + length ws ≤ length xs → at + pitch ≤ from → take pitch (drop at (written xs from ws)) ≡ take pitch (drop at xs)
written_below xs at pitch from ws p q = same_lists _ _ (search (rules, places)) (λ k d h. grind (arith, places))

pub written_above : (xs : List ℕ) (at pitch from : ℕ) (ws : List ℕ) → from + length ws ≤ length xs → from + length ws ≤ at → take pitch (drop at (written xs from ws)) ≡ take pitch (drop at xs)
written_above xs at pitch from ws p q = same_lists _ _ (search (rules, places)) (λ k d h. grind (arith, places))

pub block_read : (s : Raster) (y : ℕ) (b : List ℕ) → y / s.step < length s.blocks → b ≡ slice_index_or s.blocks (y / s.step) b → b ≡ block_of s y
block_read s y b low e = get_or_read s.blocks (y / s.step) b low e []

pub lends_run : (s : Raster) (y from : ℕ) (b : List ℕ) → b ≡ block_of s y → (w : List ℕ) → record s { blocks = slice_set s.blocks (y / s.step) (written b (start_of s y + from) w) } ≡ with_run s y from w
lends_run s y from b e w = ap (λ x. record s { blocks = slice_set s.blocks (y / s.step) (written x (start_of s y + from) w) }) e

pub lent_run : (s : Raster) (y from to : ℕ) (b : List ℕ) → b ≡ block_of s y → from ≤ to → to ≤ s.pitch → take ((start_of s y + to) - (start_of s y + from)) (drop (start_of s y + from) b) ≡ take (to - from) (drop from (row_of s y))
lent_run s y from to b e p q = rw e (run_read (block_of s y) (start_of s y) s.pitch from to p q)

pub row_length : (s : Raster) (y : ℕ) → HasRows s → y < s.height → length (row_of s y) ≡ s.pitch
row_length s y has low = let here = has.row_there y low in search (rules, places)

pub run_length : (s : Raster) (y from to : ℕ) → HasRows s → y < s.height → from ≤ to → to ≤ s.pitch → length (take (to - from) (drop from (row_of s y))) ≡ to - from
run_length s y from to has low order fits = let whole = row_length s y has low in search (rules, places)

pub row_same : (s : Raster) (y from : ℕ) (w : List ℕ) → y / s.step < length s.blocks → start_of s y + s.pitch ≤ length (block_of s y) → from + length w ≤ s.pitch → row_of (with_run s y from w) y ≡ written (row_of s y) from w
row_same s y from w low fits h =
    rw (get_or-set_same s.blocks (y / s.step) (written (block_of s y) (start_of s y + from) w) [] low)
    (written_within (block_of s y) (start_of s y) s.pitch from w fits h)

-- rows of one block lie apart
pub rows_apart : (a b pitch : ℕ) → a < b → a * pitch + pitch ≤ b * pitch
rows_apart a b pitch h = omega (arith, suc-mul a pitch, mul-le-mul_right pitch h)

pub same_row : (a b n : ℕ) → a / n ≡ b / n → a % n ≡ b % n → a ≡ b
same_row a b n p q = sym (div-add-mod' a n) ∙ (rw (p, q) (div-add-mod' b n))

row_other_within : (s : Raster) (y from : ℕ) (w : List ℕ) (j : ℕ) → j ≢ y → j / s.step ≡ y / s.step → start_of s y + s.pitch ≤ length (block_of s y) → from + length w ≤ s.pitch → (j % s.step ≡ y % s.step) ⊎ ((j % s.step < y % s.step) ⊎ (y % s.step < j % s.step)) → take s.pitch (drop (start_of s j) (written (block_of s y) (start_of s y + from) w)) ≡ take s.pitch (drop (start_of s j) (block_of s y))
row_other_within s y from w j d e fits h (inl same) = absurd (d (same_row j y s.step e same))
row_other_within s y from w j d e fits h (inr (inl low)) = written_below (block_of s y) (start_of s j) s.pitch (start_of s y + from) w (omega arith) (omega (arith, rows_apart (j % s.step) (y % s.step) s.pitch low))
row_other_within s y from w j d e fits h (inr (inr low)) = written_above (block_of s y) (start_of s j) s.pitch (start_of s y + from) w (omega arith) (omega (arith, rows_apart (y % s.step) (j % s.step) s.pitch low))

row_other_by : (s : Raster) (y from : ℕ) (w : List ℕ) (j : ℕ) → j ≢ y → y / s.step < length s.blocks → start_of s y + s.pitch ≤ length (block_of s y) → from + length w ≤ s.pitch → (j / s.step ≡ y / s.step) ⊎ (j / s.step ≢ y / s.step) → row_of (with_run s y from w) j ≡ row_of s j
row_other_by s y from w j d low fits h (inl e) =
    rw (e, get_or-set_same s.blocks (y / s.step) (written (block_of s y) (start_of s y + from) w) [] low)
    (row_other_within s y from w j d e fits h (cases_order _ _))
row_other_by s y from w j d low fits h (inr n) =
    ap (λ b. take s.pitch (drop (start_of s j) b)) (get_or-set_other s.blocks (y / s.step) (j / s.step) (written (block_of s y) (start_of s y + from) w) [] n)

pub row_other : (s : Raster) (y from : ℕ) (w : List ℕ) (j : ℕ) → j ≢ y → y / s.step < length s.blocks → start_of s y + s.pitch ≤ length (block_of s y) → from + length w ≤ s.pitch → row_of (with_run s y from w) j ≡ row_of s j
row_other s y from w j d low fits h = row_other_by s y from w j d low fits h (cases_eq (j / s.step) (y / s.step))
