-- The samples and pixels of a raster, and those of its rows.
use Rattle.std.proofs.Common.{◌≡◌, ◌≤◌, ◌<◌, ℕ, zero, suc, ◌+◌, ◌-◌, ◌*◌, ◌==◌, if◌then◌else◌, Bool, true, false, nat_lt, nat_eq, List, ◌++◌, length, take, drop, slice_index, None, refl, sym, ap, subst, ◌≢◌, ◌⊎◌, inl, inr, ◌∙◌, arith, rules}
use Rattle.std.proofs.lemmas.Bool.{le-ltb, cases_lt}
use Rattle.std.proofs.lemmas.Bool.Decides.{nat_tests}
use Rattle.std.proofs.lemmas.List.{places, same_lists}
use Rattle.std.proofs.lemmas.Nat.{mul-add-lt}
use Rattle.std.proofs.Math.Nat.{mul-le-mul_right, mul_assoc, mul_comm}
use Rattle.fx_pixel.specs.declared.Components.TheVariants as components
use Rattle.fx_pixel.specs.declared.Depth.{Depth}
use Rattle.fx_pixel.specs.declared.Depth.TheVariants.{Byte, Short}
use Rattle.fx_pixel.specs.declared.Pixel.TheVariants.{Rgba}
use Rattle.fx_pixel.specs.Pixel.{greatest, size}
use Rattle.fx_image.specs.Stored.{sample_in, pixel_in, pixel_size}
use Rattle.fx_image.proofs.PixelLaws.{sample_of_run, pixel_of_run}
use Rattle.fx_image.proofs.RowsLaws.{rows_apart}
use Rattle.fx_pam.specs.Reading.{Header, depth_of, sample_count, raster_length, sample_at, scaled, pixel_of, first_above}
use Rattle.fx_pam.specs.Raster.{IsPlain, IsWhole, RiseTo, row_length, row_at}
use Rattle.fx_pam.proofs.ReadingLaws.{sample_size-is}

-- the search goes on behind a sample that isn't above the greatest
pub first-next : (h : Header) (i n : ℕ) → i < n → sample_at h i ≤ h.maxval → first_above h i (n - i) ≡ first_above h (i + 1) (n - (i + 1))
first-next h i n low fits = let one : n - i ≡ suc (n - (i + 1)) = omega arith in rw (one, le-ltb h.maxval (sample_at h i) fits) refl

low-by : (h : Header) (i n j : ℕ) (above here : Bool) → nat_lt h.maxval (sample_at h i) ≡ above → nat_eq i j ≡ here → first_above h i (suc n) ≡ None → i ≤ j → j < i + suc n
    → (first_above h (i + 1) n ≡ None → i + 1 ≤ j → j < i + 1 + n → sample_at h j ≤ h.maxval) → sample_at h j ≤ h.maxval
low-by h i n j true here above same none from to later = absurd (let some = rw above at none in cc)
low-by h i n j false true fits same none from to later = let e : i ≡ j = grind (arith, nat_tests) in rw (← e) (grind (arith, nat_tests))
low-by h i n j false false fits other none from to later = later (rw fits at none) (grind (arith, nat_tests)) (omega arith)

-- where no sample is found, each is low
pub none-low : (h : Header) (i n : ℕ) → first_above h i n ≡ None → (j : ℕ) → i ≤ j → j < i + n → sample_at h j ≤ h.maxval
none-low h i zero none j from to = absurd (omega arith)
none-low h i (suc n) none j from to = low-by h i n j (nat_lt h.maxval (sample_at h i)) (nat_eq i j) refl refl none from to (λ behind above below. none-low h (i + 1) n behind j above below)

-- the last byte of a sample of the raster
pub sample-room : (h : Header) (i : ℕ) → i < sample_count h → raster_length h ≤ length h.behind → size (depth_of h) * i + size (depth_of h) ≤ length h.behind
sample-room h i low long = omega (arith, mul_comm (size (depth_of h)) i, mul-le-mul_right (size (depth_of h)) low, ap (λ n. sample_count h * n) (sample_size-is h))

-- samples of bytes are no greater than the depth's greatest
pub sample-bound : (depth : Depth) (bytes : List ℕ) (i : ℕ) → ((j : ℕ) → j < length bytes → slice_index bytes j < 256) → size depth * i + size depth ≤ length bytes → sample_in depth bytes i ≤ greatest depth
sample-bound Byte bytes i each room = omega (arith, each i (omega arith))
sample-bound Short bytes i each room = omega (arith, each (2 * i) (omega arith), each (2 * i + 1) (omega arith))

place_in : (r w c d k : ℕ) → (r * w + c) * d + k ≡ r * (w * d) + ((0 * w + c) * d + k)
place_in r w c d k = omega arith

bytes_in : (s r x i : ℕ) → s * (r * x + i) ≡ r * (x * s) + s * i
bytes_in s r x i = omega arith

row_length-is : (h : Header) → row_length h ≡ (h.width * h.depth) * size (depth_of h)
row_length-is h = ap (λ n. h.width * h.depth * n) (sample_size-is h)

-- a sample of a row is one of the raster
row-sample : (h : Header) (r i : ℕ) → i < h.width * h.depth → sample_at (row_at h r) i ≡ sample_at h (r * (h.width * h.depth) + i)
row-sample h r i low =
    let x = h.width * h.depth in
    let s = size (depth_of h) in
    let long = row_length-is h in
    sample_of_run (depth_of h) h.behind (r * row_length h) (row_length h) i (r * x + i)
    (rw long (bytes_in s r x i))
    (rw long (omega (arith, mul-le-mul_right s low)))

-- the pixel of samples that agree
same-pixel : (m : ℕ) (d : ℕ) (s t : ℕ → ℕ) → 1 ≤ d → d ≤ 4 → ((k : ℕ) → k < d → s k ≡ t k)
    → (if d == 1 then Rgba (s 0) (s 0) (s 0) m else if d == 2 then Rgba (s 0) (s 0) (s 0) (s 1) else if d == 3 then Rgba (s 0) (s 1) (s 2) m else Rgba (s 0) (s 1) (s 2) (s 3))
    ≡ (if d == 1 then Rgba (t 0) (t 0) (t 0) m else if d == 2 then Rgba (t 0) (t 0) (t 0) (t 1) else if d == 3 then Rgba (t 0) (t 1) (t 2) m else Rgba (t 0) (t 1) (t 2) (t 3))
same-pixel m zero s t some few same = absurd (omega arith)
same-pixel m (suc zero) s t some few same = rw (same 0 (omega arith)) refl
same-pixel m (suc (suc zero)) s t some few same = rw (same 0 (omega arith), same 1 (omega arith)) refl
same-pixel m (suc (suc (suc zero))) s t some few same = rw (same 0 (omega arith), same 1 (omega arith), same 2 (omega arith)) refl
same-pixel m (suc (suc (suc (suc zero)))) s t some few same = rw (same 0 (omega arith), same 1 (omega arith), same 2 (omega arith), same 3 (omega arith)) refl
same-pixel m (suc (suc (suc (suc (suc d))))) s t some few same = absurd (omega arith)

-- a pixel of a row is one of the raster
pub row-pixel : (h : Header) (r c : ℕ) → 1 ≤ h.depth → h.depth ≤ 4 → c < h.width → pixel_of (row_at h r) 0 c ≡ pixel_of h r c
row-pixel h r c some few low =
    same-pixel (greatest (depth_of h)) h.depth (λ k. scaled h (sample_at (row_at h r) ((0 * h.width + c) * h.depth + k))) (λ k. scaled h (sample_at h ((r * h.width + c) * h.depth + k))) some few
    (λ k within_pixel. ap (scaled h) (row-sample h r ((0 * h.width + c) * h.depth + k) (omega (arith, mul-add-lt c h.depth k h.width low within_pixel)) ∙ ap (sample_at h) (sym (place_in r h.width c h.depth k))))

-- a row of a whole raster is there
pub row-there : (h : Header) (r : ℕ) → raster_length h ≤ length h.behind → r < h.height → r * row_length h + row_length h ≤ length h.behind
row-there h r long low = omega (arith, long, mul-le-mul_right (row_length h) low)

-- a row of a whole raster is whole
pub row-whole : (side : ℕ) (h : Header) (r : ℕ) → 1 ≤ side → IsWhole side h → r < h.height → IsWhole side (row_at h r)
row-whole side h r some is low =
    let there = row-there h r is.long low in
    record {
      ranged = record { width = is.ranged.width; height = (omega arith, some); depth = is.ranged.depth; maxval = is.ranged.maxval };
      long = let e : raster_length (row_at h r) ≡ row_length h = omega arith in rw e (search (rules, places));
      low = λ i here. rw (row-sample h r i (omega (arith, here))) (is.low (r * (h.width * h.depth) + i) (omega (arith, mul-add-lt r (h.width * h.depth) i h.height low (omega arith))));
    }

-- what holds of the numbers below c, and of c
pub one-more : (P : ℕ → Type 0) (c : ℕ) → P c → ((k : ℕ) → k ≢ c → k < c → P k) → (k : ℕ) → k < c + 1 → P k
one-more P c here below k low = by (nat_eq k c) refl
  where
    by : (b : Bool) → nat_eq k c ≡ b → P k
    by true same = let e : k ≡ c = grind (arith, nat_tests) in subst P (sym e) here
    by false other = below k (grind (arith, nat_tests)) (grind (arith, nat_tests))

front-of : (xs ys : List ℕ) → take (length xs) (drop 0 (xs ++ ys)) ≡ xs
front-of xs ys = same_lists _ _ (search (rules, places)) (λ k d h. grind (arith, places))

behind-of : (xs ys : List ℕ) → take (length ys) (drop (length xs) (xs ++ ys)) ≡ ys
behind-of xs ys = same_lists _ _ (search (rules, places)) (λ k d h. grind (arith, places))

module _ (depth : Depth) (xs ys : List ℕ) where
  -- a pixel of the bytes in front
  pub pixel-front : (i : ℕ) → i * pixel_size depth components.Rgba + pixel_size depth components.Rgba ≤ length xs → pixel_in depth components.Rgba (xs ++ ys) i ≡ pixel_in depth components.Rgba xs i
  pixel-front i room =
      let none : 0 * pixel_size depth components.Rgba ≡ 0 = omega arith in
      let first = ap (λ k. take (length xs) (drop k (xs ++ ys))) none ∙ front-of xs ys in
      let same : 0 + i ≡ i = omega arith in
      sym (ap (λ bytes. pixel_in depth components.Rgba bytes i) (sym first) ∙ pixel_of_run depth components.Rgba (xs ++ ys) (length xs) 0 i room ∙ ap (pixel_in depth components.Rgba (xs ++ ys)) same)

  -- a pixel of the bytes behind
  pub pixel-behind : (from i : ℕ) → length xs ≡ from * pixel_size depth components.Rgba → i * pixel_size depth components.Rgba + pixel_size depth components.Rgba ≤ length ys
      → pixel_in depth components.Rgba (xs ++ ys) (from + i) ≡ pixel_in depth components.Rgba ys i
  pixel-behind from i long room =
      sym (ap (λ bytes. pixel_in depth components.Rgba bytes i) (sym (behind-of xs ys)) ∙ ap (λ k. pixel_in depth components.Rgba (take (length ys) (drop k (xs ++ ys))) i) long ∙ pixel_of_run depth components.Rgba (xs ++ ys) (length ys) from i room)

-- a row of a plain raster has the bytes of its pixels
pub plain-row : (h : Header) → IsPlain h → row_length h ≡ h.width * pixel_size (depth_of h) components.Rgba
plain-row h is = row_length-is h ∙ ap (λ n. (h.width * n) * size (depth_of h)) is.four ∙ mul_assoc h.width 4 (size (depth_of h))

pub one-row-more : (y n : ℕ) → y * n + n ≡ (y + 1) * n
one-row-more y n = omega arith

-- rows that rise, and the next one
pub rise-next : (h : Header) (y : ℕ) (rows row : List ℕ) → IsPlain h → length rows ≡ y * row_length h → length row ≡ row_length h → RiseTo h y rows
    → ((c : ℕ) → c < h.width → pixel_in (depth_of h) components.Rgba row c ≡ pixel_of h (h.height - 1 - y) c) → RiseTo h (y + 1) (rows ++ row)
rise-next h y rows row is long wide risen next r c low left = by (cases_lt r y)
  where
    by : (r < y) ⊎ (y ≤ r) → pixel_in (depth_of h) components.Rgba (rows ++ row) (r * h.width + c) ≡ pixel_of h (h.height - 1 - r) c
    by (inl before) =
        let size = pixel_size (depth_of h) components.Rgba in
        let there : r * h.width + c < y * h.width = omega (arith, mul-add-lt r h.width c y before left) in
        let all : length rows ≡ (y * h.width) * size = long ∙ ap (λ n. y * n) (plain-row h is) ∙ sym (mul_assoc y h.width size) in
        pixel-front (depth_of h) rows row (r * h.width + c) (rw all (rows_apart (r * h.width + c) (y * h.width) size there)) ∙ risen r c before left
    by (inr behind) =
        let size = pixel_size (depth_of h) components.Rgba in
        let here : r ≡ y = omega arith in
        let all : length rows ≡ (y * h.width) * size = long ∙ ap (λ n. y * n) (plain-row h is) ∙ sym (mul_assoc y h.width size) in
        let fits : c * size + size ≤ length row = rw (wide, plain-row h is) (rows_apart c h.width size left) in
        rw here (pixel-behind (depth_of h) rows row (y * h.width) c all fits ∙ next c left)
