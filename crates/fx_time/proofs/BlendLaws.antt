-- Sums of samples of several frames.
use Rattle.std.proofs.Common.{◌≡◌, ◌≤◌, ◌<◌, ℕ, ◌+◌, ◌*◌, ◌/◌, ◌%◌, ℤ, pos, ◌+ℤ◌, ◌-ℤ◌, List, length, map, slice_index, refl, ap, sym, subst, arith, ◌∙◌}
use Rattle.std.specs.List.{sum_by}
use Rattle.std.specs.Prelude.{[], ◌∷◌, All}
use Rattle.std.proofs.lemmas.Int.{ints}
use Rattle.std.proofs.lemmas.List.Elements.{All-nil, All-cons}
use Rattle.std.proofs.lemmas.List.Sums.{sum_by-cons}
use Rattle.std.proofs.lemmas.Nat.{div-mul-add, mod-mul-add}
use Rattle.std.proofs.lemmas.Simd.{map-map}
use Rattle.fx_base.specs.Bounds.{Bounds}
use Rattle.fx_base.specs.Rect.{columns, IsFrame}
use Rattle.fx_pixel.specs.declared.Depth.{Depth}
use Rattle.fx_pixel.specs.declared.Components.{Components}
use Rattle.fx_pixel.specs.Pixel.{count, greatest, IsOfDepth}
use Rattle.fx_image.specs.Stored.{sample_in}
use Rattle.fx_props.specs.Entries.{AreModerate}
use Rattle.fx_effect.specs.Given.{Given, PixelsFit, input_pixel, row_pixel}
use Rattle.fx_effect.specs.Local.{Read, own_taps}
use Rattle.fx_effect.specs.Rows.{IsRow, ShowsRow}
use Rattle.fx_effect.specs.Tap.{tap}
use Rattle.fx_kernel.specs.Samples.{nth, sum_of}
use Rattle.fx_kernel.specs.SampleLaws.{nth_bound}
use Rattle.fx_kernel.specs.Around.{around}
use Rattle.fx_kernel.specs.AroundLaws.{sum_by-map, sum_by-same}
use Rattle.fx_kernel.specs.Sums.{AreSums}
use Rattle.fx_kernel.specs.RowLaws.{sample_low, samples_of}
use Rattle.fx_time.specs.Times.{source_at}
use Rattle.fx_time.specs.Frameblend.{blend_reads}
use Rattle.fx_time.specs.BlendRows.{moment_sample}
use Rattle.fx_time.proofs.LineLaws.{pixel_of}

-- a sample of a row that was read
pub sample_read : (given : Given) (t : ℤ) (d : Depth) (c : Components) (rect : Bounds) (y : ℤ) (row bytes : List ℕ)
    → IsRow d c rect y row → ShowsRow d c rect y (row_pixel given 0 t) bytes
    → (s : ℕ) → s < columns rect * count c → sample_in d bytes s ≡ moment_sample given c rect y s t
sample_read given t d c rect y row bytes is shows s low =
    samples_of d c bytes (columns rect) (λ i. row_pixel given 0 t (rect.x1 +ℤ pos i) y)
    (pixel_of d c rect y row bytes (row_pixel given 0 t) is shows) s low

place_is : (w i n : ℕ) → n + w * i ≡ i * w + n
place_is w i n = omega arith

sample_column : (c : Components) (i n : ℕ) → n < count c → (n + count c * i) / count c ≡ i
sample_column c i n few = ap (λ s. s / count c) (place_is (count c) i n) ∙ div-mul-add i (count c) n few

sample_rest : (c : Components) (i n : ℕ) → n < count c → (n + count c * i) % count c ≡ n
sample_rest c i n few = ap (λ s. s % count c) (place_is (count c) i n) ∙ mod-mul-add i (count c) n few

-- sample n of pixel i
pub term_is : (given : Given) (c : Components) (rect : Bounds) (y : ℤ) (i n : ℕ) → n < count c → (t : ℤ)
    → moment_sample given c rect y (n + count c * i) t ≡ nth (row_pixel given 0 t (rect.x1 +ℤ pos i) y) n
term_is given c rect y i n few t = rw (sample_column c i n few, sample_rest c i n few) refl

-- what is read at a place, frame by frame
pub reads_are : (given : Given) (x y : ℤ) (frames : List ℤ)
    → map (input_pixel given) (own_taps (map source_at frames) x y) ≡ map (λ f. row_pixel given 0 f x y) frames
reads_are given x y frames =
    map-map (input_pixel given) (λ (r : Read). tap r.0 r.1 x y) (map source_at frames)
    ∙ map-map (λ (r : Read). input_pixel given (tap r.0 r.1 x y)) source_at frames

-- a sample's sum over the frames
pub sum_is : (given : Given) (t : ℤ) (r : ℕ) (c : Components) (rect : Bounds) (y : ℤ) (i n : ℕ) → n < count c
    → sum_by (moment_sample given c rect y (n + count c * i)) (around t r)
    ≡ sum_of n (map (input_pixel given) (own_taps (blend_reads t r) (rect.x1 +ℤ pos i) y))
sum_is given t r c rect y i n few =
    let x = rect.x1 +ℤ pos i in
    sum_by-same (moment_sample given c rect y (n + count c * i)) (λ f. nth (row_pixel given 0 f x y) n) (around t r) (term_is given c rect y i n few)
    ∙ sym (sum_by-map (λ p. nth p n) (λ f. row_pixel given 0 f x y) (around t r))
    ∙ sym (ap (sum_of n) (reads_are given x y (around t r)))

pub cell_is : (given : Given) (t : ℤ) (r m : ℕ) (c : Components) (rect : Bounds) (y : ℤ) (cells : List ℕ)
    → AreSums cells (moment_sample given c rect y) (t -ℤ pos r) (2 * r + 1) m → length cells ≡ columns rect * count c
    → (i n : ℕ) → i < columns rect → n < count c
    → slice_index cells (n + count c * i) ≡ sum_of n (map (input_pixel given) (own_taps (blend_reads t r) (rect.x1 +ℤ pos i) y))
cell_is given t r m c rect y cells sums long i n low few =
    sums.sums (n + count c * i) (rw long (sample_low c (columns rect) i n low few)) ∙ sum_is given t r c rect y i n few

sum_of_three : (term : ℤ → ℕ) (t : ℤ) (a b c : ℕ) → a ≡ term (t -ℤ pos 1) → b ≡ term t → c ≡ term (t +ℤ pos 1)
    → sum_by term (around t 1) ≡ a + b + c
sum_of_three term t a b c first here last =
    let x = t -ℤ pos 1 in
    let y = x +ℤ pos 1 in
    let z = y +ℤ pos 1 in
    let y_is : y ≡ t = omega (arith, ints) in
    let z_is : z ≡ t +ℤ pos 1 = omega (arith, ints) in
    let here' : b ≡ term y = here ∙ ap term (sym y_is) in
    let last' : c ≡ term z = last ∙ ap term (sym z_is) in
    omega (arith, first, here', last', sum_by-cons term x (y ∷ z ∷ []), sum_by-cons term y (z ∷ []), sum_by-cons term z [])

-- a sample's sum over the frames of radius 1
pub three_is : (given : Given) (t : ℤ) (k : Components) (rect : Bounds) (y : ℤ) (i n a b c : ℕ) → n < count k
    → a ≡ moment_sample given k rect y (n + count k * i) (t -ℤ pos 1) → b ≡ moment_sample given k rect y (n + count k * i) t
    → c ≡ moment_sample given k rect y (n + count k * i) (t +ℤ pos 1)
    → a + b + c ≡ sum_of n (map (input_pixel given) (own_taps (blend_reads t 1) (rect.x1 +ℤ pos i) y))
three_is given t k rect y i n a b c few first here last =
    sym (sum_of_three (moment_sample given k rect y (n + count k * i)) t a b c first here last) ∙ sum_is given t 1 k rect y i n few

pub span_moderate : (t a b : ℤ) (r : ℕ) → IsFrame t → r ≤ 16 → a ≡ t -ℤ pos r → b ≡ t +ℤ pos r → All AreModerate ((a, b) ∷ [])
span_moderate t a b r frame few first last =
    let low = frame.0 in
    let high = frame.1 in
    All-cons AreModerate (a, b) [] ((omega (arith, ints), omega (arith, ints)), (omega (arith, ints), omega (arith, ints))) (All-nil AreModerate)

-- a sample that is read is within the depth
pub term_bound : (given : Given) (d : Depth) (c : Components) (rect : Bounds) (y : ℤ) (s : ℕ) (t : ℤ) → PixelsFit given → given.depth ≡ d
    → moment_sample given c rect y s t ≤ greatest d
term_bound given d c rect y s t fit is =
    let a = tap 0 t (rect.x1 +ℤ pos (s / count c)) y in
    nth_bound d (row_pixel given 0 t (rect.x1 +ℤ pos (s / count c)) y) (s % count c) (subst (λ (e : Depth). IsOfDepth e (input_pixel given a)) is (fit.depth a))
