-- Rows of bytes of r, g, b and a, of which eight pixels at once are read and written.
use Rattle.std.proofs.Common.{◌≡◌, ◌≢◌, ◌≤◌, ◌<◌, ◌⊎◌, inl, inr, ℕ, ◌+◌, ◌-◌, ◌*◌, List, length, take, drop, slice_index, ap, ◌∙◌, arith}
use Rattle.std.proofs.lemmas.Bool.{cases_lt}
use Rattle.std.proofs.lemmas.List.{places}
use Rattle.std.proofs.lemmas.Simd.{get_or-chunk, get_or-put_chunk_below, get_or-put_chunk_at, get_or-put_chunk_above}
use lib.Lanes.{chunk, put_chunk}
use borrow.Rule.Slice.PartMut.{put_mid}
use Rattle.fx_pixel.specs.declared.Depth.TheVariants.{Byte}
use Rattle.fx_pixel.specs.declared.Components.{Components}
use Rattle.fx_pixel.specs.declared.Components.TheVariants.{Rgba}
use Rattle.fx_pixel.specs.declared.Pixel.{Pixel}
use Rattle.fx_pixel.specs.declared.Pixel.TheVariants as pixels
use Rattle.fx_image.specs.Stored.{pixel_in}

pixel_of : {r g b a r' g' b' a' : ℕ} → r ≡ r' → g ≡ g' → b ≡ b' → a ≡ a' → pixels.Rgba r g b a ≡ pixels.Rgba r' g' b' a'
pixel_of p q s t = cc

same_place : (xs : List ℕ) (i j : ℕ) → i ≡ j → slice_index xs i ≡ slice_index xs j
same_place xs i j e = ap (slice_index xs) e

-- the samples of pixel i of a row are those of pixel j of another
abbrev SameSamples : List ℕ → List ℕ → ℕ → ℕ → Type 0
SameSamples xs ys i j = (m a b : ℕ) → m < 4 → a ≡ 4 * i + m → b ≡ 4 * j + m → slice_index xs a ≡ slice_index ys b

same_pixel : (xs ys : List ℕ) (i j : ℕ) → SameSamples xs ys i j → pixel_in Byte Rgba xs i ≡ pixel_in Byte Rgba ys j
same_pixel xs ys i j same =
    pixel_of (same 0 (4 * i) (4 * j) (omega arith) (omega arith) (omega arith)) (same 1 (4 * i + 1) (4 * j + 1) (omega arith) (omega arith) (omega arith))
    (same 2 (4 * i + 2) (4 * j + 2) (omega arith) (omega arith) (omega arith)) (same 3 (4 * i + 3) (4 * j + 3) (omega arith) (omega arith) (omega arith))

read_run : (xs : List ℕ) (from n i : ℕ) → i < n → slice_index (take n (drop from xs)) i ≡ slice_index xs (from + i)
read_run xs from n i h = grind (arith, places)

put_before : (xs ys : List ℕ) (from n i : ℕ) → from ≤ length xs → i < from → slice_index (put_mid from n xs ys) i ≡ slice_index xs i
put_before xs ys from n i room before = grind (arith, places)

put_there : (xs ys : List ℕ) (from n i : ℕ) → from ≤ length xs → i < length ys → slice_index (put_mid from n xs ys) (from + i) ≡ slice_index ys i
put_there xs ys from n i room within = grind (arith, places)

-- a pixel of eight that are read
pub eight_read : (xs : List ℕ) (block i : ℕ) → i < 8 → pixel_in Byte Rgba (chunk (32 * block) 32 xs) i ≡ pixel_in Byte Rgba xs (8 * block + i)
eight_read xs block i few = same_pixel (chunk (32 * block) 32 xs) xs i (8 * block + i) (λ m a b less one other.
    get_or-chunk (32 * block) 32 xs a 0 (omega arith) ∙ same_place xs (32 * block + a) b (omega arith))

-- a pixel before eight that are written
eight_before : (xs made : List ℕ) (block i : ℕ) → i < 8 * block → pixel_in Byte Rgba (put_chunk (32 * block) xs made) i ≡ pixel_in Byte Rgba xs i
eight_before xs made block i before = same_pixel (put_chunk (32 * block) xs made) xs i i (λ m a b less one other.
    get_or-put_chunk_below (32 * block) xs made a 0 (omega arith) ∙ same_place xs a b (omega arith))

-- one of eight that are written
eight_written : (xs made : List ℕ) (block i : ℕ) → length made ≡ 32 → 32 * block + 32 ≤ length xs → i < 8
    → pixel_in Byte Rgba (put_chunk (32 * block) xs made) (8 * block + i) ≡ pixel_in Byte Rgba made i
eight_written xs made block i long room few = same_pixel (put_chunk (32 * block) xs made) made (8 * block + i) i (λ m a b less one other.
    same_place (put_chunk (32 * block) xs made) a (32 * block + b) (omega arith) ∙ get_or-put_chunk_at (32 * block) xs made b 0 (omega arith) (omega arith))

-- a pixel of what is left behind the eights
pub rest_read : (xs : List ℕ) (whole n i : ℕ) → 4 * i + 4 ≤ n → pixel_in Byte Rgba (take n (drop (32 * whole) xs)) i ≡ pixel_in Byte Rgba xs (8 * whole + i)
rest_read xs whole n i room = same_pixel (take n (drop (32 * whole) xs)) xs i (8 * whole + i) (λ m a b less one other.
    read_run xs (32 * whole) n a (omega arith) ∙ same_place xs (32 * whole + a) b (omega arith))

-- a pixel before what is written behind the eights
rest_before : (xs made : List ℕ) (whole n i : ℕ) → 32 * whole ≤ length xs → i < 8 * whole → pixel_in Byte Rgba (put_mid (32 * whole) n xs made) i ≡ pixel_in Byte Rgba xs i
rest_before xs made whole n i room before = same_pixel (put_mid (32 * whole) n xs made) xs i i (λ m a b less one other.
    put_before xs made (32 * whole) n a room (omega arith) ∙ same_place xs a b (omega arith))

-- one of what is written there
rest_written : (xs made : List ℕ) (whole n i : ℕ) → 32 * whole ≤ length xs → 4 * i + 4 ≤ length made
    → pixel_in Byte Rgba (put_mid (32 * whole) n xs made) (8 * whole + i) ≡ pixel_in Byte Rgba made i
rest_written xs made whole n i room fits = same_pixel (put_mid (32 * whole) n xs made) made (8 * whole + i) i (λ m a b less one other.
    same_place (put_mid (32 * whole) n xs made) a (32 * whole + b) (omega arith) ∙ put_there xs made (32 * whole) n b room (omega arith))

-- a pixel behind eight that are written
pub eight_behind : (xs made : List ℕ) (block i : ℕ) → length made ≡ 32 → 8 * (block + 1) ≤ i → pixel_in Byte Rgba (put_chunk (32 * block) xs made) i ≡ pixel_in Byte Rgba xs i
eight_behind xs made block i long behind = same_pixel (put_chunk (32 * block) xs made) xs i i (λ m a b less one other.
    get_or-put_chunk_above (32 * block) xs made a 0 (omega arith) ∙ same_place xs a b (omega arith))

-- the first pixels of a row are these
abbrev pub Firsts : ℕ → (ℕ → Pixel) → List ℕ → Type 0
Firsts n want row = (k : ℕ) → k < n → pixel_in Byte Rgba row k ≡ want k

-- with eight more that are written there are so many more
pub eights_next : (want : ℕ → Pixel) (row made : List ℕ) (block : ℕ) → length made ≡ 32 → 32 * block + 32 ≤ length row
    → Firsts (8 * block) want row → Firsts 8 (λ i. want (8 * block + i)) made → Firsts (8 * (block + 1)) want (put_chunk (32 * block) row made)
eights_next want row made block long room done new k below = by (cases_lt k (8 * block))
  where
    is : 8 * block ≤ k → 8 * block + (k - 8 * block) ≡ k
    is behind = omega arith

    by : (k < 8 * block) ⊎ (8 * block ≤ k) → pixel_in Byte Rgba (put_chunk (32 * block) row made) k ≡ want k
    by (inl before) = eight_before row made block k before ∙ done k before
    by (inr behind) = rw (is behind) at (eight_written row made block (k - 8 * block) long room (omega arith) ∙ new (k - 8 * block) (omega arith))

-- with what is written behind the eights there are all
pub eights_all : (want : ℕ → Pixel) (row made : List ℕ) (whole n : ℕ) → 32 * whole ≤ length row
    → Firsts (8 * whole) want row → ((i : ℕ) → 4 * i + 4 ≤ length made → pixel_in Byte Rgba made i ≡ want (8 * whole + i))
    → (k : ℕ) → 4 * k + 4 ≤ 32 * whole + length made → pixel_in Byte Rgba (put_mid (32 * whole) n row made) k ≡ want k
eights_all want row made whole n room done new k fits = by (cases_lt k (8 * whole))
  where
    is : 8 * whole ≤ k → 8 * whole + (k - 8 * whole) ≡ k
    is behind = omega arith

    by : (k < 8 * whole) ⊎ (8 * whole ≤ k) → pixel_in Byte Rgba (put_mid (32 * whole) n row made) k ≡ want k
    by (inl before) = rest_before row made whole n k room before ∙ done k before
    by (inr behind) = rw (is behind) at (rest_written row made whole n (k - 8 * whole) room (omega arith) ∙ new (k - 8 * whole) (omega arith))

-- a row that differs from another in pixel i at most
abbrev pub Beside : ℕ → Components → List ℕ → List ℕ → Type 0
Beside i c row new = (j : ℕ) → j ≢ i → pixel_in Byte c new j ≡ pixel_in Byte c row j

-- with one more that is set there is one more
pub one_more : (want : ℕ → Pixel) (row new : List ℕ) (i : ℕ) (c : Components) → c ≡ Rgba → pixel_in Byte c new i ≡ want i → Beside i c row new → Firsts i want row
    → Firsts (i + 1) want new
one_more want row new i c is there others done k below = by (cases_lt k i)
  where
    here : pixel_in Byte Rgba new i ≡ want i
    here = rw is at there

    kept : Beside i Rgba row new
    kept = rw is at others

    same : i ≤ k → i ≡ k
    same behind = omega arith

    by : (k < i) ⊎ (i ≤ k) → pixel_in Byte Rgba new k ≡ want k
    by (inl before) = kept k (omega arith) ∙ done k before
    by (inr behind) = rw (same behind) at here

-- and those behind it stay
pub one_beside : (row new : List ℕ) (i k : ℕ) (c : Components) → c ≡ Rgba → Beside i c row new → i + 1 ≤ k → pixel_in Byte Rgba new k ≡ pixel_in Byte Rgba row k
one_beside row new i k c is others behind = (rw is at others) k (omega arith)
