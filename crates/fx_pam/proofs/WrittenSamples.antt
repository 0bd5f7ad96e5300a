-- Samples that are written as bytes and then read.
use Rattle.std.proofs.Common.{◌≡◌, ◌<◌, ℕ, zero, suc, ◌+◌, ◌*◌, ◌/◌, ◌%◌, List, [], ◌∷◌, ◌++◌, length, get_or, refl, ap, ◌∙◌, arith}
use Rattle.fx_pixel.specs.declared.Depth.{Depth}
use Rattle.fx_pixel.specs.declared.Depth.TheVariants.{Byte, Short}
use Rattle.fx_pixel.specs.Pixel.{size}
use Rattle.fx_image.specs.Stored.{sample_in}
use Rattle.fx_pam.specs.Text.{sample_bytes}
use Rattle.fx_pam.proofs.Chunks.{chunks}

pub bytes-append : (depth : Depth) (xs ys : List ℕ) → sample_bytes depth (xs ++ ys) ≡ sample_bytes depth xs ++ sample_bytes depth ys
bytes-append Byte [] ys = refl
bytes-append Byte (x ∷ xs) ys = ap (λ bs. x ∷ bs) (bytes-append Byte xs ys)
bytes-append Short [] ys = refl
bytes-append Short (x ∷ xs) ys = ap (λ bs. x / 256 ∷ x % 256 ∷ bs) (bytes-append Short xs ys)

-- chunks of samples are chunks of bytes
pub bytes-chunks : (depth : Depth) (f : ℕ → List ℕ) (n : ℕ) → sample_bytes depth (chunks f n) ≡ chunks (λ k. sample_bytes depth (f k)) n
bytes-chunks Byte f zero = refl
bytes-chunks Short f zero = refl
bytes-chunks depth f (suc n) = bytes-append depth (chunks f n) (f n) ∙ ap (λ bs. bs ++ sample_bytes depth (f n)) (bytes-chunks depth f n)

pub length-bytes : (depth : Depth) (xs : List ℕ) → length (sample_bytes depth xs) ≡ length xs * size depth
length-bytes Byte [] = refl
length-bytes Byte (x ∷ xs) = omega (arith, length-bytes Byte xs)
length-bytes Short [] = refl
length-bytes Short (x ∷ xs) = omega (arith, length-bytes Short xs)

-- sample i is read where it was written
pub sample-back : (depth : Depth) (xs rest : List ℕ) (i : ℕ) → i < length xs → sample_in depth (sample_bytes depth xs ++ rest) i ≡ get_or xs i 0
sample-back depth [] rest i h = absurd (omega arith)
sample-back Byte (x ∷ xs) rest zero h = refl
sample-back Byte (x ∷ xs) rest (suc i) h = sample-back Byte xs rest i (omega arith)
sample-back Short (x ∷ xs) rest zero h = omega arith
sample-back Short (x ∷ xs) rest (suc i) h =
    let first : 2 * suc i ≡ suc (suc (2 * i)) = omega arith in
    let second : 2 * suc i + 1 ≡ suc (suc (2 * i + 1)) = omega arith in
    rw (second, first) (sample-back Short xs rest i (omega arith))
