-- Rows whose pixels of r, g, b and a are put in the other order, 32 bytes at once.
use Rattle.std.proofs.Common.{◌≡◌, ◌≤◌, ◌<◌, ◌⊎◌, inl, inr, ℕ, ◌+◌, ◌-◌, ◌*◌, ◌/◌, ◌%◌, List, map, length, get_or, slice_index, ◌++◌, ap, ◌∙◌, arith}
use Rattle.std.specs.List.{range_with_len}
use Rattle.std.proofs.lemmas.Bool.{cases_lt}
use Rattle.std.proofs.lemmas.List.{get_or_append_left}
use Rattle.std.proofs.lemmas.List.FromFn.{get_or-map-range_with_len}
use Rattle.std.proofs.lemmas.Simd.{get_or-chunk, get_or-put_chunk_below, get_or-put_chunk_at}
use lib.Lanes.{chunk, put_chunk}
use Rattle.fx_pixel.specs.declared.Depth.{Depth}
use Rattle.fx_pixel.specs.declared.Depth.TheVariants.{Byte, Short}
use Rattle.fx_pixel.specs.declared.Components.TheVariants.{Rgba}
use Rattle.fx_pixel.specs.declared.Pixel.TheVariants as pixels
use Rattle.fx_image.specs.Stored.{pixel_size, sample_in, pixel_in}

-- ---- pixels that have the same bytes

pixel_of : {r g b a r' g' b' a' : ℕ} → r ≡ r' → g ≡ g' → b ≡ b' → a ≡ a' → pixels.Rgba r g b a ≡ pixels.Rgba r' g' b' a'
pixel_of p q s t = cc

-- the bytes of pixel i of a row are those of pixel j of another, where a pixel has so many
abbrev SameBytes : ℕ → List ℕ → List ℕ → ℕ → ℕ → Type 0
SameBytes w xs ys i j = (m a b : ℕ) → m < w → a ≡ w * i + m → b ≡ w * j + m → slice_index xs a ≡ slice_index ys b

same_bytes : (xs ys : List ℕ) (i j : ℕ) → SameBytes 4 xs ys i j → pixel_in Byte Rgba xs i ≡ pixel_in Byte Rgba ys j
same_bytes xs ys i j same =
    pixel_of (same 0 (4 * i) (4 * j) (omega arith) (omega arith) (omega arith)) (same 1 (4 * i + 1) (4 * j + 1) (omega arith) (omega arith) (omega arith))
    (same 2 (4 * i + 2) (4 * j + 2) (omega arith) (omega arith) (omega arith)) (same 3 (4 * i + 3) (4 * j + 3) (omega arith) (omega arith) (omega arith))

same_shorts : (xs ys : List ℕ) (i j : ℕ) → SameBytes 8 xs ys i j → pixel_in Short Rgba xs i ≡ pixel_in Short Rgba ys j
same_shorts xs ys i j same =
    pixel_of (sample 0 (4 * i) (4 * j) (omega arith) (omega arith) (omega arith)) (sample 1 (4 * i + 1) (4 * j + 1) (omega arith) (omega arith) (omega arith))
    (sample 2 (4 * i + 2) (4 * j + 2) (omega arith) (omega arith) (omega arith)) (sample 3 (4 * i + 3) (4 * j + 3) (omega arith) (omega arith) (omega arith))
  where
    sample : (k a b : ℕ) → k < 4 → a ≡ 4 * i + k → b ≡ 4 * j + k → sample_in Short xs a ≡ sample_in Short ys b
    sample k a b few p q =
        let high = same (2 * k) (2 * a) (2 * b) (omega arith) (omega arith) (omega arith) in
        let low = same (2 * k + 1) (2 * a + 1) (2 * b + 1) (omega arith) (omega arith) (omega arith) in
        omega (arith, high, low)

-- ---- 32 bytes

-- where each byte comes from
abbrev from : Depth → ℕ → ℕ
from Byte i = 4 * (7 - i / 4) + i % 4
from Short i = 8 * (3 - i / 8) + i % 8

abbrev pub turned_bytes : Depth → List ℕ → List ℕ
turned_bytes d xs = map (λ j. get_or (xs ++ xs) (from d j) 0) (range_with_len 0 32)

byte_at : (d : Depth) (xs : List ℕ) (i k : ℕ) → length xs ≡ 32 → i < 32 → k < 32 → from d i ≡ k → get_or (turned_bytes d xs) i 0 ≡ get_or xs k 0
byte_at d xs i k long inside there is =
    get_or-map-range_with_len (λ j. get_or (xs ++ xs) (from d j) 0) 0 32 i i 0 inside (omega arith)
    ∙ ap (λ j. get_or (xs ++ xs) j 0) is ∙ get_or_append_left xs xs 0 k (omega arith)

pub turned_at : (d : Depth) (xs : List ℕ) (i : ℕ) → length xs ≡ 32 → i < 32 / pixel_size d Rgba
    → pixel_in d Rgba (turned_bytes d xs) i ≡ pixel_in d Rgba xs ((32 / pixel_size d Rgba - 1) - i)
turned_at Byte xs i long low = same_bytes (turned_bytes Byte xs) xs i (7 - i) (λ m a b less one other.
    byte_at Byte xs a b long (omega arith) (omega arith) (omega arith))
turned_at Short xs i long low = same_shorts (turned_bytes Short xs) xs i (3 - i) (λ m a b less one other.
    byte_at Short xs a b long (omega arith) (omega arith) (omega arith))

-- ---- rows

-- pixel k of a row of n is the one that is in its place from the other end of the source
abbrev pub IsTurned : Depth → ℕ → List ℕ → List ℕ → ℕ → Type 0
IsTurned d n source row k = pixel_in d Rgba row k ≡ pixel_in d Rgba source ((n - 1) - k)

-- bytes that were written, and that were read
written : (row made : List ℕ) (at a b : ℕ) → length made ≡ 32 → at + 32 ≤ length row → b < 32 → a ≡ at + b
    → slice_index (put_chunk at row made) a ≡ slice_index made b
written row made at a b long room few is =
    ap (slice_index (put_chunk at row made)) is ∙ get_or-put_chunk_at at row made b 0 (omega arith) (omega arith)

read : (source : List ℕ) (at a b : ℕ) → a < 32 → at + a ≡ b → slice_index (chunk at 32 source) a ≡ slice_index source b
read source at a b few is = get_or-chunk at 32 source a 0 few ∙ ap (slice_index source) is

-- with 32 bytes more that are written there are so many more
pub turned_next : (d : Depth) (n block : ℕ) (source row made : List ℕ) → length made ≡ 32 → length row ≡ length source
    → n * pixel_size d Rgba ≡ length source → 32 * block + 32 ≤ length source
    → ((k : ℕ) → k < 32 / pixel_size d Rgba * block → IsTurned d n source row k)
    → ((i : ℕ) → i < 32 / pixel_size d Rgba → pixel_in d Rgba made i ≡ pixel_in d Rgba (chunk (length source - 32 - 32 * block) 32 source) ((32 / pixel_size d Rgba - 1) - i))
    → (k : ℕ) → k < 32 / pixel_size d Rgba * (block + 1) → IsTurned d n source (put_chunk (32 * block) row made) k
turned_next Byte n block source row made long same whole room done new k low = by (cases_lt k (8 * block))
  where
    by : (k < 8 * block) ⊎ (8 * block ≤ k) → IsTurned Byte n source (put_chunk (32 * block) row made) k
    by (inl before) = same_bytes (put_chunk (32 * block) row made) row k k (λ m a b less one other.
        get_or-put_chunk_below (32 * block) row made a 0 (omega arith) ∙ ap (slice_index row) (omega arith)) ∙ done k before
    by (inr behind) =
        let at = length source - 32 - 32 * block in
        let i = k - 8 * block in
        same_bytes (put_chunk (32 * block) row made) made k i (λ m a b less one other. written row made (32 * block) a b long (omega arith) (omega arith) (omega arith))
        ∙ new i (omega arith)
        ∙ same_bytes (chunk at 32 source) source (7 - i) ((n - 1) - k) (λ m a b less one other. read source at a b (omega arith) (omega arith))
turned_next Short n block source row made long same whole room done new k low = by (cases_lt k (4 * block))
  where
    by : (k < 4 * block) ⊎ (4 * block ≤ k) → IsTurned Short n source (put_chunk (32 * block) row made) k
    by (inl before) = same_shorts (put_chunk (32 * block) row made) row k k (λ m a b less one other.
        get_or-put_chunk_below (32 * block) row made a 0 (omega arith) ∙ ap (slice_index row) (omega arith)) ∙ done k before
    by (inr behind) =
        let at = length source - 32 - 32 * block in
        let i = k - 4 * block in
        same_shorts (put_chunk (32 * block) row made) made k i (λ m a b less one other. written row made (32 * block) a b long (omega arith) (omega arith) (omega arith))
        ∙ new i (omega arith)
        ∙ same_shorts (chunk at 32 source) source (3 - i) ((n - 1) - k) (λ m a b less one other. read source at a b (omega arith) (omega arith))

-- pixels up to `first`, and then the others
pub turned_all : (d : Depth) (n first : ℕ) (source mid new : List ℕ) → ((k : ℕ) → k < first → IsTurned d n source mid k)
    → ((k : ℕ) → k < first → pixel_in d Rgba new k ≡ pixel_in d Rgba mid k)
    → (k : ℕ) → (first ≤ k → IsTurned d n source new k) → IsTurned d n source new k
turned_all d n first source mid new done left k more = by (cases_lt k first)
  where
    by : (k < first) ⊎ (first ≤ k) → IsTurned d n source new k
    by (inl before) = left k before ∙ done k before
    by (inr behind) = more behind
