-- The brightest pixel of rows, and pixels over it.
use Rattle.std.proofs.Common.{◌≡◌, ◌≤◌, ◌<◌, ℕ, zero, suc, ◌+◌, ◌*◌, ◌/◌, min, max, ℤ, pos, ◌+ℤ◌, List, [], ◌∷◌, ◌++◌, map, Bool, false, refl, sym, ap, add-one, arith, ◌∙◌, if◌then◌else◌, inl, inr, ◌≤ℤ◌, ◌<ℤ◌, w64, to_z, FitsSigned}
use Rattle.std.specs.List.{flat_map}
use Rattle.std.proofs.lemmas.Bool.{cases_lt}
use Rattle.std.proofs.lemmas.Int.{ints}
use Rattle.std.proofs.lemmas.Simd.{map-map}
use Rattle.std.proofs.Math.Nat.{mul-le-mul_right, le-div_iff_mul-le}
use Rattle.std.proofs.lemmas.Nat.{div-mul-add}
use Rattle.fx_base.specs.Bounds.{Bounds}
use Rattle.fx_base.specs.Rect.{columns, rows}
use Rattle.fx_base.specs.Run.{int_range, int_run}
use Rattle.fx_image.proofs.ImageLaws.{fits_near, gap_is}
use Rattle.fx_pixel.specs.declared.Depth.{Depth}
use Rattle.fx_pixel.specs.declared.Components.{Components}
use Rattle.fx_pixel.specs.declared.Pixel.{Pixel}
use Rattle.fx_image.specs.Stored.{pixel_in}
use Rattle.fx_kernel.specs.AroundLaws.{int_run-push}
use Rattle.fx_kernel.specs.Samples.{rounded}
use Rattle.fx_kernel.specs.SampleLaws.{rounded_bound}
use Rattle.fx_effect.specs.Tap.{Tap, tap}
use Rattle.fx_effect.specs.Given.{Given, input_pixel, row_pixel}
use Rattle.fx_effect.specs.Rows.{ShowsRow}
use Rattle.fx_effect.specs.Shape.{IsProject}
use Rattle.fx_effect.proofs.RunLaws.{run_shown}
use Rattle.fx_whole.specs.Autogain.{brightest, brightness, row_taps}
use Rattle.fx_whole.specs.Level.{row_level}

-- ---- the brightest of lists

pub brightest-append : (xs ys : List Pixel) → brightest (xs ++ ys) ≡ max (brightest xs) (brightest ys)
brightest-append [] ys = omega arith
brightest-append (x ∷ xs) ys = let rest = brightest-append xs ys in omega (arith, rest)

mapped-append : {X : Type 0} (g : X → Pixel) (xs ys : List X)
    → brightest (map g (xs ++ ys)) ≡ max (brightest (map g xs)) (brightest (map g ys))
mapped-append g [] ys = omega arith
mapped-append g (x ∷ xs) ys = let rest = mapped-append g xs ys in omega (arith, rest)

-- of one place more
run_push : (h : ℤ → Pixel) (a : ℤ) (n : ℕ)
    → brightest (map h (int_run a (suc n))) ≡ max (brightest (map h (int_run a n))) (brightness (h (a +ℤ pos n)))
run_push h a n =
    let e = ap (λ (l : List ℤ). brightest (map h l)) (int_run-push a n) in
    let f = mapped-append h (int_run a n) ((a +ℤ pos n) ∷ []) in
    omega (arith, e, f)

-- of one row more
pub rows_push : (g : Tap → Pixel) (f : ℤ → List Tap) (a : ℤ) (n : ℕ)
    → brightest (map g (flat_map f (int_run a (suc n))))
    ≡ max (brightest (map g (flat_map f (int_run a n)))) (brightest (map g (f (a +ℤ pos n))))
rows_push g f a n =
    let e = ap (λ (l : List ℤ). brightest (map g (flat_map f l))) (int_run-push a n) in
    let r = more (int_run a n) (a +ℤ pos n) in
    omega (arith, e, r)
  where
    more : (zs : List ℤ) (z : ℤ)
        → brightest (map g (flat_map f (zs ++ z ∷ []))) ≡ max (brightest (map g (flat_map f zs))) (brightest (map g (f z)))
    more [] z = let e = mapped-append g (f z) [] in omega (arith, e)
    more (w ∷ zs) z =
        let a = mapped-append g (f w) (flat_map f (zs ++ z ∷ [])) in
        let b = more zs z in
        let c = mapped-append g (f w) (flat_map f zs) in
        omega (arith, a, b, c)

-- ---- of a row of bytes

-- the bytes show the pixels of a run
pub row_level_is : (d : Depth) (c : Components) (row : List ℕ) (h : ℤ → Pixel) (a : ℤ) (n : ℕ)
    → ((i : ℕ) → i < n → pixel_in d c row i ≡ h (a +ℤ pos i)) → row_level d c row n ≡ brightest (map h (int_run a n))
row_level_is d c row h a zero shows = refl
row_level_is d c row h a (suc n) shows =
    let before = row_level_is d c row h a n (λ i low. shows i (omega arith)) in
    let here = ap brightness (shows n (omega arith)) in
    let pushed = run_push h a n in
    omega (arith, before, here, pushed)

pub row_level_more : (d : Depth) (c : Components) (row : List ℕ) (n : ℕ)
    → row_level d c row (n + 1) ≡ max (row_level d c row n) (brightness (pixel_in d c row n))
row_level_more d c row n = ap (row_level d c row) (add-one n)

-- ---- of the rows of a project's extent

-- one row more
pub level_more : (given : Given) (t : ℤ) (d : Depth) (c : Components) (p : Bounds) (n width : ℕ) (row : List ℕ)
    → p.x1 <ℤ p.x2 → p.y1 ≤ℤ (p.y1 +ℤ pos n) → (p.y1 +ℤ pos n) <ℤ p.y2 → width ≡ columns p
    → ShowsRow d c p (p.y1 +ℤ pos n) (row_pixel given 0 t) row
    → max (brightest (map (input_pixel given) (flat_map (row_taps p t) (int_run p.y1 n)))) (row_level d c row width)
    ≡ brightest (map (input_pixel given) (flat_map (row_taps p t) (int_run p.y1 (n + 1))))
level_more given t d c p n width row wide above below is shows =
    let y = p.y1 +ℤ pos n in
    let g = input_pixel given in
    let one = ap (row_level d c row) is
    ∙ row_level_is d c row (λ x. row_pixel given 0 t x y) p.x1 (columns p)
    (λ i low. run_shown d c p y (row_pixel given 0 t) row i wide above below shows low)
    ∙ sym (ap brightest (map-map g (λ (x : ℤ). tap 0 t x y) (int_range p.x1 p.x2))) in
    let more = ap (λ k. brightest (map g (flat_map (row_taps p t) (int_run p.y1 k)))) (add-one n)
    ∙ rows_push g (row_taps p t) p.y1 n in
    omega (arith, one, more)

-- where a row lies
pub record IsLevel (p : Bounds) (y : ℤ) (j : ℕ) : Type 0 where
  pub fits : FitsSigned w64 (y +ℤ pos j)
  pub above : p.y1 ≤ℤ (p.y1 +ℤ pos j)
  pub below : (p.y1 +ℤ pos j) <ℤ p.y2
  pub few : to_z w64 j ≡ pos j

pub is_level : (p : Bounds) (y : ℤ) (j : ℕ) → IsProject p → y ≡ p.y1 → j < rows p → IsLevel p y j
is_level p y j is same low =
    let bottom = is.bottom in
    let high = is.high in
    let whole = gap_is p.y1 p.y2 (omega (arith, ints, bottom, high.0)) in
    let below : (p.y1 +ℤ pos j) <ℤ p.y2 = omega (arith, ints, whole, low) in
    record {
      fits = fits_near (y +ℤ pos j) (omega (arith, ints, same, bottom)) (omega (arith, ints, same, below, high.1));
      above = omega (arith, ints);
      below = below;
      few = omega (arith, ints, below, bottom, high.1);
    }

-- ---- scaled samples

-- a sample above the level comes to no more than the greatest one
scaled_above : (most level c : ℕ) → 0 < level → level ≤ c → min most (rounded (c * most) level) ≡ rounded (level * most) level
scaled_above most level c some above =
    let whole : rounded (level * most) level ≡ most = exact in
    let product : level * most ≤ c * most = mul-le-mul_right most above in
    let room : most * (2 * level) ≤ 2 * (c * most) + level =
    let p : most * (2 * level) ≡ 2 * (level * most) = omega arith in omega (arith, p, product) in
    let enough : most ≤ rounded (c * most) level = (le-div_iff_mul-le (omega (arith, some))).1 room in
    omega (arith, whole, enough)
  where
    exact : rounded (level * most) level ≡ most
    exact =
        let p : 2 * (level * most) + level ≡ most * (2 * level) + level = omega arith in
        ap (λ n. n / (2 * level)) p ∙ div-mul-add most (2 * level) level (omega (arith, some))

pub scaled_is : (most level c : ℕ) → 0 < level → min most (rounded (c * most) level) ≡ rounded (min c level * most) level
scaled_is most level c some = elim (cases_lt c level) [
  | inl low ↦
      let product : c * most ≤ level * most = mul-le-mul_right most (omega (arith, low)) in
      let bound = rounded_bound (c * most) level most some product in
      let few : min c level ≡ c = omega (arith, low) in
      rw few (omega (arith, bound))
  | inr above ↦
      let few : min c level ≡ level = omega (arith, above) in
      rw few (scaled_above most level c some above)
]

pub scaled_room : (most level c : ℕ) → min c level * most ≤ level * most
scaled_room most level c = mul-le-mul_right most (omega arith)

-- where there is a level
pub scaled_if : (most level c : ℕ) (none : Bool) → none ≡ false → 0 < level
    → (if none then c else min most (rounded (c * most) level)) ≡ rounded (min c level * most) level
scaled_if most level c none test some = rw test (scaled_is most level c some)

pub at_least_one : (level : ℕ) → 0 < level → max level 1 ≡ level
at_least_one level some = omega arith
