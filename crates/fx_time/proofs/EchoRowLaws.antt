-- The greatest of weighed samples, frame by frame.
use Rattle.std.proofs.Common.{◌≡◌, ◌<◌, ℕ, zero, suc, ◌+◌, ◌-◌, ◌*◌, max, ℤ, pos, ◌+ℤ◌, List, [], ◌∷◌, ◌++◌, length, map, slice_index, refl, ap, sym, arith, add-one, ◌∙◌}
use Rattle.std.proofs.lemmas.List.{append_assoc}
use Rattle.fx_pixel.specs.declared.Depth.{Depth}
use Rattle.fx_pixel.specs.declared.Depth.TheVariants.{Byte, Short}
use Rattle.fx_image.specs.Stored.{sample_in, pixel_size}
use Rattle.fx_base.specs.Bounds.{Bounds}
use Rattle.fx_pixel.specs.declared.Components.{Components}
use Rattle.fx_pixel.specs.declared.Components.TheVariants as components
use Rattle.fx_pixel.specs.declared.Pixel.{Pixel}
use Rattle.fx_pixel.specs.Pixel.{count, size}
use Rattle.fx_effect.specs.Given.{Given, input_pixel, row_pixel}
use Rattle.fx_effect.specs.Local.{own_taps}
use Rattle.fx_kernel.specs.Samples.{nth}
use Rattle.fx_time.specs.Times.{source_at, alone}
use Rattle.fx_time.specs.Echo.{back, moments, weighed, loudest}
use Rattle.fx_time.specs.BlendRows.{moment_sample}
use Rattle.fx_time.proofs.BlendLaws.{term_is, reads_are}

-- the greatest of the samples that are fewer than `many` steps back
abbrev pub most : ℕ → (ℕ → ℕ) → ℕ → ℕ
most n f zero = 0
most n f (suc k) = max (weighed n k (f k)) (most n f k)

long_is : (f : ℤ → Pixel) (t : ℤ) (gap many : ℕ) → length (map f (moments t gap many)) ≡ many
long_is f t gap zero = refl
long_is f t gap (suc k) = ap (λ n. suc n) (long_is f t gap k)

loudest_is : (n i : ℕ) (t : ℤ) (gap : ℕ) (f : ℤ → Pixel) (many : ℕ)
    → loudest n i (map f (moments t gap many)) ≡ most n (λ k. nth (f (back t gap k)) i) many
loudest_is n i t gap f zero = refl
loudest_is n i t gap f (suc k) = rw (long_is f t gap k, loudest_is n i t gap f k) refl

most_same : (n : ℕ) (f g : ℕ → ℕ) (many : ℕ) → ((k : ℕ) → f k ≡ g k) → most n f many ≡ most n g many
most_same n f g zero same = refl
most_same n f g (suc k) same = rw (same k, most_same n f g k same) refl

-- the sample of the row is that of the pixel
pub row_is : (given : Given) (n : ℕ) (t : ℤ) (gap : ℕ) (c : Components) (rect : Bounds) (y : ℤ) (i s many : ℕ) → s < count c
    → most n (λ k. moment_sample given c rect y (s + count c * i) (back t gap k)) many
    ≡ loudest n s (map (input_pixel given) (own_taps (map source_at (moments t gap many)) (rect.x1 +ℤ pos i) y))
row_is given n t gap c rect y i s many few =
    let x = rect.x1 +ℤ pos i in
    most_same n (λ k. moment_sample given c rect y (s + count c * i) (back t gap k)) (λ k. nth (row_pixel given 0 (back t gap k) x y) s) many
    (λ k. term_is given c rect y i s few (back t gap k))
    ∙ sym (loudest_is n s t gap (λ f. row_pixel given 0 f x y) many)
    ∙ sym (ap (loudest n s) (reads_are given x y (moments t gap many)))

-- one frame more
pub next_most : (n k count back : ℕ) (f : ℕ → ℕ) (new other old : ℕ) → count ≡ n → back ≡ k → other ≡ f k → old ≡ most n f k
    → new ≡ max (weighed count back other) old → new ≡ most n f (k + 1)
next_most n k count back f new other old all here read before made =
    made ∙ rw (all, here, read, before) (sym (ap (most n f) (add-one k)))

-- samples of bytes that are 0
pub clear_sample : (d : Depth) (row : List ℕ) (s : ℕ) → ((i : ℕ) → slice_index row i ≡ 0) → sample_in d row s ≡ 0
clear_sample Byte row s none = none s
clear_sample Short row s none = rw (none (2 * s), none (2 * s + 1)) refl

-- one span more of the list, from the farthest on
pub next_span : (old new : List (ℤ × ℤ)) (t : ℤ) (gap count n : ℕ) (f : ℤ) (whole : List (ℤ × ℤ)) → n < count + 1 → f ≡ back t gap (count - n) → new ≡ old ++ (f, f) ∷ []
    → old ++ map alone (moments t gap (count + 1 - n)) ≡ whole → new ++ map alone (moments t gap (count + 1 - (n + 1))) ≡ whole
next_span old new t gap count n f whole low is pushed before =
    let here : count + 1 - n ≡ suc (count - n) = omega (arith, low) in
    let next : count + 1 - (n + 1) ≡ count - n = omega arith in
    rw (pushed, is, next)
    (append_assoc old (alone (back t gap (count - n)) ∷ []) (map alone (moments t gap (count - n))) ∙ (rw here at before))

-- the spans, by numbers that are the same
pub spans_are : (spans : List (ℤ × ℤ)) (t u : ℤ) (g h n m : ℕ) → spans ≡ map alone (moments t g (suc n)) → t ≡ u → g ≡ h → n ≡ m
    → spans ≡ map alone (moments u h (suc m))
spans_are spans t u g h n m is times gaps counts =
    is ∙ ap (λ z. map alone (moments z g (suc n))) times ∙ ap (λ z. map alone (moments u z (suc n))) gaps
    ∙ ap (λ z. map alone (moments u h (suc z))) counts

-- how many bytes the samples of a row have
pub row_samples : (d : Depth) (c : Components) (columns w k : ℕ) → w ≡ columns → k ≡ count c → columns * pixel_size d c ≡ w * k * size d
row_samples Byte components.Rgba columns w k wide is = rw (wide, is) (omega arith)
row_samples Byte components.Alpha columns w k wide is = rw (wide, is) (omega arith)
row_samples Short components.Rgba columns w k wide is = rw (wide, is) (omega arith)
row_samples Short components.Alpha columns w k wide is = rw (wide, is) (omega arith)
