-- Pixels of a row and its samples.
use Rattle.std.proofs.Common.{◌≡◌, ◌≤◌, ◌<◌, ℕ, zero, suc, ◌+◌, ◌*◌, ◌/◌, ◌%◌, ℤ, pos, ◌+ℤ◌, List, slice_index, refl, ap, sym, arith, ◌∙◌}
use Rattle.std.specs.Int.{int_gap}
use Rattle.std.proofs.lemmas.Nat.{div-add-mod', mod_below, div_below}
use Rattle.fx_base.specs.Bounds.{Bounds}
use Rattle.fx_base.specs.Rect.{Holds, columns}
use Rattle.fx_pixel.specs.declared.Depth.{Depth}
use Rattle.fx_pixel.specs.declared.Depth.TheVariants.{Byte, Short}
use Rattle.fx_pixel.specs.declared.Components.{Components}
use Rattle.fx_pixel.specs.declared.Components.TheVariants as components
use Rattle.fx_pixel.specs.declared.Pixel.{Pixel}
use Rattle.fx_pixel.specs.declared.Pixel.TheVariants.{Alpha}
use Rattle.fx_pixel.specs.Pixel.{count, size, greatest}
use Rattle.fx_image.specs.Stored.{pixel_size, sample_in, pixel_in}
use Rattle.fx_image.proofs.ImageLaws.{gap_is, gap_below, place_from}
use Rattle.fx_kernel.specs.Samples.{nth, each}

same_sample : (d : Depth) (row : List ℕ) (i j : ℕ) → i ≡ j → sample_in d row i ≡ sample_in d row j
same_sample d row i j e = ap (sample_in d row) e

-- sample k of pixel i
pub sample_of : (d : Depth) (c : Components) (row : List ℕ) (i k : ℕ) → k < count c
    → sample_in d row (i * count c + k) ≡ nth (pixel_in d c row i) k
sample_of d components.Rgba row i zero low = same_sample d row (i * 4 + 0) (4 * i) (omega arith)
sample_of d components.Rgba row i (suc zero) low = same_sample d row (i * 4 + 1) (4 * i + 1) (omega arith)
sample_of d components.Rgba row i (suc (suc zero)) low = same_sample d row (i * 4 + 2) (4 * i + 2) (omega arith)
sample_of d components.Rgba row i (suc (suc (suc zero))) low = same_sample d row (i * 4 + 3) (4 * i + 3) (omega arith)
sample_of d components.Rgba row i (suc (suc (suc (suc k)))) low = absurd (omega arith)
sample_of d components.Alpha row i zero low = same_sample d row (i * 1 + 0) i (omega arith)
sample_of d components.Alpha row i (suc k) low = absurd (omega arith)

count_some : (c : Components) → 0 < count c
count_some components.Rgba = omega arith
count_some components.Alpha = omega arith

-- the samples of a row whose pixels are known
pub samples_of : (d : Depth) (c : Components) (row : List ℕ) (n : ℕ) (f : ℕ → Pixel)
    → ((i : ℕ) → i < n → pixel_in d c row i ≡ f i) → (s : ℕ) → s < n * count c
    → sample_in d row s ≡ nth (f (s / count c)) (s % count c)
samples_of d c row n f shows s low =
    same_sample d row s (s / count c * count c + s % count c) (sym (div-add-mod' s (count c)))
    ∙ sample_of d c row (s / count c) (s % count c) (mod_below s (count c) (count_some c))
    ∙ ap (λ p. nth p (s % count c)) (shows (s / count c) (div_below s (count c) n (count_some c) low))

-- bytes are small
pub sample_bound : (d : Depth) (row : List ℕ) (s : ℕ) → ((i : ℕ) → slice_index row i < 256)
    → sample_in d row s ≤ greatest d
sample_bound Byte row s bytes = let h = bytes s in omega arith
sample_bound Short row s bytes = let h = bytes (2 * s) in let l = bytes (2 * s + 1) in omega arith

-- the pixels of a row whose samples are known
pub pixel_of_samples : (d : Depth) (c : Components) (row : List ℕ) (i : ℕ) (f : ℕ → ℕ)
    → ((k : ℕ) → k < count c → sample_in d row (k + count c * i) ≡ f k) → pixel_in d c row i ≡ each c f
pixel_of_samples d components.Rgba row i f is =
    let r : sample_in d row (4 * i) ≡ f 0 = same_sample d row (4 * i) (0 + 4 * i) (omega arith) ∙ is 0 (omega arith) in
    let g : sample_in d row (4 * i + 1) ≡ f 1 =
    same_sample d row (4 * i + 1) (1 + 4 * i) (omega arith) ∙ is 1 (omega arith) in
    let b : sample_in d row (4 * i + 2) ≡ f 2 =
    same_sample d row (4 * i + 2) (2 + 4 * i) (omega arith) ∙ is 2 (omega arith) in
    let a : sample_in d row (4 * i + 3) ≡ f 3 =
    same_sample d row (4 * i + 3) (3 + 4 * i) (omega arith) ∙ is 3 (omega arith) in
    rw (r, g, b, a) refl
pixel_of_samples d components.Alpha row i f is =
    ap Alpha (same_sample d row i (0 + 1 * i) (omega arith) ∙ is 0 (omega arith))

-- a row shows pixels that are made sample by sample
pub shows_samples : (d : Depth) (c : Components) (rect : Bounds) (y : ℤ) (row : List ℕ) (f : ℤ → ℕ → ℕ)
    → ((i k : ℕ) → i < columns rect → k < count c → sample_in d row (k + count c * i) ≡ f (rect.x1 +ℤ pos i) k)
    → (x : ℤ) → Holds rect x y → pixel_in d c row (int_gap rect.x1 x) ≡ each c (f x)
shows_samples d c rect y row f is x inside =
    let place = place_from rect x y inside in
    let i = int_gap rect.x1 x in
    let low = gap_below rect.x1 x rect.x2 place.left place.right in
    pixel_of_samples d c row i (f (rect.x1 +ℤ pos i)) (λ k few. is i k low few)
    ∙ ap (λ z. each c (f z)) (gap_is rect.x1 x place.left)

-- sample k of pixel i, whose pixel is known
pub sample_at : (d : Depth) (c : Components) (row : List ℕ) (i k : ℕ) (p : Pixel) → k < count c
    → pixel_in d c row i ≡ p → sample_in d row (k + count c * i) ≡ nth p k
sample_at d c row i k p low is =
    same_sample d row (k + count c * i) (i * count c + k) (omega arith) ∙ sample_of d c row i k low
    ∙ ap (λ q. nth q k) is

-- it lies in the row
pub sample_room : (d : Depth) (c : Components) (n i k : ℕ) → i < n → k < count c
    → (k + count c * i) * size d + size d ≤ n * pixel_size d c
sample_room Byte components.Rgba n i k low few = omega arith
sample_room Short components.Rgba n i k low few = omega arith
sample_room Byte components.Alpha n i k low few = omega arith
sample_room Short components.Alpha n i k low few = omega arith

pub sample_low : (c : Components) (n i k : ℕ) → i < n → k < count c → k + count c * i < n * count c
sample_low components.Rgba n i k low few = omega arith
sample_low components.Alpha n i k low few = omega arith

pub greatest_few : (d : Depth) → greatest d ≤ 65535
greatest_few Byte = omega arith
greatest_few Short = omega arith

pub count_few : (c : Components) → (0 < count c) × (count c ≤ 4)
count_few components.Rgba = (omega arith, omega arith)
count_few components.Alpha = (omega arith, omega arith)
