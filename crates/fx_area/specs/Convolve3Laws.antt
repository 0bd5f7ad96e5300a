-- What every effect keeps, of convolve3.
use Rattle.std.specs.Prelude.{◌≡◌, ◌≤◌, ◌<◌, ℕ, ◌+◌, ◌*◌, ◌/◌, min, ℤ, pos, negsuc, ◌≤ℤ◌, ◌+ℤ◌, ◌-ℤ◌, unsigned_abs, true, List, [], ◌∷◌, length, map, All, refl}
use Rattle.std.specs.List.{Contains, list_all}
use Rattle.std.specs.Ordering.{int_eq}
use Rattle.std.proofs.Common.{ap, sym, subst, arith, ◌∙◌}
use Rattle.std.proofs.Math.Nat.{div-eq_of_lt}
use Rattle.std.proofs.lemmas.Bool.{and_parts}
use Rattle.std.proofs.lemmas.Bool.Decides.{Decides-int_eq}
use Rattle.std.proofs.lemmas.Int.{ints}
use Rattle.std.proofs.lemmas.Nat.{div-mul-add}
use Rattle.std.proofs.lemmas.List.Elements.{All-nil, All-cons, All-head, All-tail, All-map}
use Rattle.fx_base.specs.Bounds.{Bounds}
use Rattle.fx_base.specs.Rect.{grown}
use Rattle.fx_base.proofs.RunLaws.{All-run, All-flat_map}
use Rattle.fx_pixel.specs.declared.Depth.{Depth}
use Rattle.fx_pixel.specs.declared.Components.{Components}
use Rattle.fx_pixel.specs.declared.Pixel.{Pixel}
use Rattle.fx_pixel.specs.Pixel.{greatest, zero as clear, IsOfDepth, components_of}
use Rattle.fx_kernel.specs.Samples.{nth, clamped}
use Rattle.fx_kernel.specs.SampleLaws.{clamped_few, nth_bound, nth_clear, each_same, each_of, each_clear, each_is_pixel}
use Rattle.fx_kernel.specs.Around.{around}
use Rattle.fx_props.specs.Entries.{region_of}
use Rattle.fx_effect.specs.Tap.{Tap, tap}
use Rattle.fx_effect.specs.Shape.{IsLawfulIn}
use Rattle.fx_effect.specs.Numbers.{number}
use Rattle.fx_effect.specs.NumberLaws.{number_between}
use Rattle.fx_effect.specs.Meaning.{mixed}
use Rattle.fx_effect.specs.Default.{default_spans}
use Rattle.fx_effect.specs.DefaultLaws.{default_spans_near, covered_here}
use Rattle.fx_effect.specs.Laws.{Laws, TapPixels, IsCovered, IsGiven, IsSameAs}
use Rattle.fx_effect.specs.ShapeTests.{shape_is}
use Rattle.fx_effect.specs.declared.action.Context.{Context}
use Rattle.fx_effect.specs.declared.action.Identity.TheVariants.{Same}
use Rattle.fx_effect.specs.declared.values.Values.{Values}
use Rattle.fx_effect.specs.SourceLaws.{source_flag, source_connected, same_source}
use Rattle.fx_area.specs.GrownLaws.{in_grown, grown_is_rect, grown_near, region_up_to}
use Rattle.fx_area.specs.Convolve3.{divisor_param, convolve_params, factors, divisor, nine, sum_of_products, rounded_z, convolved, keeps_source, convolve_shape, convolve3}

-- ---- the divisor

pub divisor_some : (context : Context) (v : Values) → IsLawfulIn convolve_shape context v
    → (0 < divisor v) × (divisor v ≤ 65536) × (number v 9 ≡ pos (divisor v))
divisor_some context v lawful =
    let between = number_between convolve_params v 9 divisor_param lawful.numbers (omega arith) in
    go (number v 9) between.above between.below
  where
    go : (z : ℤ) → pos 1 ≤ℤ z → z ≤ℤ pos 65536
        → (0 < unsigned_abs z) × (unsigned_abs z ≤ 65536) × (z ≡ pos (unsigned_abs z))
    go (pos n) low high = (omega (arith, ints), omega (arith, ints), refl)
    go (negsuc n) low high = absurd (omega (arith, ints))

-- ---- the nine places

pub All-nine : {X : Type 0} (P : X → Type 0) (at : ℤ → ℤ → X) (x y : ℤ)
    → ((i j : ℤ) → (x -ℤ pos 1) ≤ℤ i → i ≤ℤ (x +ℤ pos 1) → (y -ℤ pos 1) ≤ℤ j → j ≤ℤ (y +ℤ pos 1) → P (at i j))
    → All P (nine at x y)
All-nine {X} P at x y h =
    All-flat_map P (λ j. map (λ i. at i j) (around x 1)) ((y +ℤ pos 1) ∷ y ∷ (y -ℤ pos 1) ∷ [])
    (All-cons Row (y +ℤ pos 1) (y ∷ (y -ℤ pos 1) ∷ []) (row (y +ℤ pos 1) (omega (arith, ints)) (omega (arith, ints)))
    (All-cons Row y ((y -ℤ pos 1) ∷ []) (row y (omega (arith, ints)) (omega (arith, ints)))
    (All-cons Row (y -ℤ pos 1) [] (row (y -ℤ pos 1) (omega (arith, ints)) (omega (arith, ints))) (All-nil Row))))
  where
    Row : ℤ → Type 0
    Row j = All P (map (λ i. at i j) (around x 1))

    row : (j : ℤ) → (y -ℤ pos 1) ≤ℤ j → j ≤ℤ (y +ℤ pos 1) → Row j
    row j low high =
        All-map P (λ i. at i j) (around x 1)
        (All-run (λ i. P (at i j)) (x -ℤ pos 1) 3 (λ i a b. h i j a (omega (arith, ints)) low high))

-- ---- sums that are rounded

sum_none : (c : Components) (k : ℕ) (ks : List ℤ) (pixels : List Pixel) → All (λ p. p ≡ clear c) pixels
    → sum_of_products ks (map (λ p. nth p k) pixels) ≡ pos 0
sum_none c k [] pixels all = refl
sum_none c k (n ∷ ks) [] all = refl
sum_none c k (n ∷ ks) (p ∷ pixels) all =
    let rest = sum_none c k ks pixels (All-tail (λ p. p ≡ clear c) p pixels all) in
    let none : nth p k ≡ 0 = ap (λ q. nth q k) (All-head (λ p. p ≡ clear c) p pixels all) ∙ nth_clear c k in
    rw (none, rest) (omega (arith, ints))

pub rounded_none : (q : ℕ) → 0 < q → rounded_z (pos 0) q ≡ pos 0
rounded_none q some = ap pos (div-eq_of_lt (omega arith))

min_none : (m : ℕ) → min m 0 ≡ 0
min_none m = grind arith

convolved_clear : (c : Components) (m : ℕ) (ks : List ℤ) (q : ℕ) (pixels : List Pixel) → 0 < q
    → All (λ p. p ≡ clear c) pixels → convolved c m ks q pixels ≡ clear c
convolved_clear c m ks q pixels some all =
    each_same c (λ k. clamped m (rounded_z (sum_of_products ks (map (λ p. nth p k) pixels)) q)) (λ k. 0)
    (λ k.
    ap (λ s. clamped m (rounded_z s q)) (sum_none c k ks pixels all)
    ∙ ap (clamped m) (rounded_none q some)
    ∙ min_none m)
    ∙ each_clear c

-- ---- the source itself

same_test : (z w : ℤ) → int_eq z w ≡ true → z ≡ w
same_test z w test = grind (arith, Decides-int_eq)

zero_test : (z : ℤ) → int_eq z (pos 0) ≡ true → z ≡ pos 0
zero_test z test = same_test z (pos 0) test

times_divisor : (q s : ℕ) → 0 < q → (2 * (q * s) + q) / (2 * q) ≡ s
times_divisor q s some =
    let e : 2 * (q * s) + q ≡ s * (2 * q) + q = omega arith in
    ap (λ n. n / (2 * q)) e ∙ div-mul-add s (2 * q) q (omega arith)

-- the numbers of which the middle one alone counts
abbrev middle_alone : ℕ → List ℤ
middle_alone q = pos 0 ∷ pos 0 ∷ pos 0 ∷ pos 0 ∷ pos q ∷ pos 0 ∷ pos 0 ∷ pos 0 ∷ pos 0 ∷ []

-- nine samples of which the middle one alone counts
middle : (m q a b c d s e f g h : ℕ) → 0 < q → s ≤ m
    → clamped m (rounded_z (sum_of_products (middle_alone q)
    (a ∷ b ∷ c ∷ d ∷ s ∷ e ∷ f ∷ g ∷ h ∷ [])) q)
    ≡ s
middle m q a b c d s e f g h some few =
    let samples = a ∷ b ∷ c ∷ d ∷ s ∷ e ∷ f ∷ g ∷ h ∷ [] in
    let sum : sum_of_products (middle_alone q) samples ≡ pos (q * s) = omega (arith, ints) in
    let whole : min m s ≡ s = grind arith in
    ap (λ z. clamped m (rounded_z z q)) sum ∙ ap (min m) (times_divisor q s some) ∙ whole

minus_plus : (x : ℤ) → (x -ℤ pos 1) +ℤ pos 1 ≡ x
minus_plus x = omega (arith, ints)

around_one : (x : ℤ) → around x 1 ≡ (x -ℤ pos 1) ∷ x ∷ (x +ℤ pos 1) ∷ []
around_one x = rw (minus_plus x) refl

-- the nine, written out
pub nine_are : {X : Type 0} (at : ℤ → ℤ → X) (x y : ℤ)
    → nine at x y
    ≡ at (x -ℤ pos 1) (y +ℤ pos 1) ∷ at x (y +ℤ pos 1) ∷ at (x +ℤ pos 1) (y +ℤ pos 1)
    ∷ at (x -ℤ pos 1) y ∷ at x y ∷ at (x +ℤ pos 1) y
    ∷ at (x -ℤ pos 1) (y -ℤ pos 1) ∷ at x (y -ℤ pos 1) ∷ at (x +ℤ pos 1) (y -ℤ pos 1) ∷ []
nine_are at x y = rw (minus_plus x) refl

-- the numbers of values that keep the source
pub record KeepsSource (v : Values) : Type 0 where
  pub factors_are : factors v ≡ middle_alone (divisor v)

all_zero : (z : ℤ) (zs : List ℤ) → list_all (λ n. int_eq n (pos 0)) (z ∷ zs) ≡ true
    → (z ≡ pos 0) × (list_all (λ n. int_eq n (pos 0)) zs ≡ true)
all_zero z zs test =
    let both = and_parts (int_eq z (pos 0)) (list_all (λ n. int_eq n (pos 0)) zs) test in (zero_test z both.0, both.1)

same_list : (a b c d m e f g h q : ℤ) → a ≡ pos 0 → b ≡ pos 0 → c ≡ pos 0 → d ≡ pos 0 → m ≡ q → e ≡ pos 0 → f ≡ pos 0
    → g ≡ pos 0 → h ≡ pos 0
    → a ∷ b ∷ c ∷ d ∷ m ∷ e ∷ f ∷ g ∷ h ∷ []
    ≡ pos 0 ∷ pos 0 ∷ pos 0 ∷ pos 0 ∷ q ∷ pos 0 ∷ pos 0 ∷ pos 0 ∷ pos 0 ∷ []
same_list a b c d m e f g h q p1 p2 p3 p4 p5 p6 p7 p8 p9 = cc

equal_numbers : (a b : ℤ) (q : ℕ) → int_eq a b ≡ true → b ≡ pos q → a ≡ pos q
equal_numbers a b q test is = same_test a b test ∙ is

keeps_tells : (v : Values) → number v 9 ≡ pos (divisor v) → keeps_source v ≡ true → KeepsSource v
keeps_tells v is test =
    let n : ℕ → ℤ = number v in
    let both = and_parts (int_eq (n 4) (n 9)) _ test in
    let a = all_zero (n 0) (n 1 ∷ n 2 ∷ n 3 ∷ n 5 ∷ n 6 ∷ n 7 ∷ n 8 ∷ []) both.1 in
    let b = all_zero (n 1) (n 2 ∷ n 3 ∷ n 5 ∷ n 6 ∷ n 7 ∷ n 8 ∷ []) a.1 in
    let c = all_zero (n 2) (n 3 ∷ n 5 ∷ n 6 ∷ n 7 ∷ n 8 ∷ []) b.1 in
    let d = all_zero (n 3) (n 5 ∷ n 6 ∷ n 7 ∷ n 8 ∷ []) c.1 in
    let e = all_zero (n 5) (n 6 ∷ n 7 ∷ n 8 ∷ []) d.1 in
    let f = all_zero (n 6) (n 7 ∷ n 8 ∷ []) e.1 in
    let g = all_zero (n 7) (n 8 ∷ []) f.1 in
    let h = all_zero (n 8) [] g.1 in
    let m = equal_numbers (n 4) (n 9) (divisor v) both.0 is in
    let q = pos (divisor v) in
    record {
      factors_are = same_list (n 0) (n 1) (n 2) (n 3) (n 4) (n 5) (n 6) (n 7) (n 8) q a.0 b.0 c.0 d.0 m e.0 f.0 g.0 h.0;
    }

-- nine pixels of which the middle one alone counts
middle_pixel : (depth : Depth) (q : ℕ) (a b c d p e f g h : Pixel) → 0 < q → IsOfDepth depth p
    → convolved (components_of p) (greatest depth) (middle_alone q) q
    (a ∷ b ∷ c ∷ d ∷ p ∷ e ∷ f ∷ g ∷ h ∷ [])
    ≡ p
middle_pixel depth q a b c d p e f g h some is =
    each_same (components_of p)
    (λ k. clamped (greatest depth)
    (rounded_z (sum_of_products (middle_alone q) (map (λ p. nth p k) (a ∷ b ∷ c ∷ d ∷ p ∷ e ∷ f ∷ g ∷ h ∷ []))) q))
    (nth p)
    (λ k. middle (greatest depth) q (nth a k) (nth b k) (nth c k) (nth d k) (nth p k) (nth e k) (nth f k) (nth g k)
    (nth h k) some (nth_bound depth p k is))
    ∙ each_of p

convolved_here : (v : Values) (depth : Depth) (c : Components) (value : TapPixels) (x y : ℤ) → 0 < divisor v
    → KeepsSource v → IsOfDepth depth (value (tap 0 v.frame x y)) → components_of (value (tap 0 v.frame x y)) ≡ c
    → (mixed convolve3 v depth c value x y ≡ value (tap 0 v.frame x y))
    × Contains (nine (tap 0 v.frame) x y) (tap 0 v.frame x y)
convolved_here v depth c value x y some keeps deep of =
    let t : ℤ → ℤ → Tap = tap 0 v.frame in
    let left = x -ℤ pos 1 in
    let right = x +ℤ pos 1 in
    let high = y +ℤ pos 1 in
    let low = y -ℤ pos 1 in
    let p : ℤ → ℤ → Pixel = λ i j. value (t i j) in
    let taps =
    t left high ∷ t x high ∷ t right high ∷ t left y ∷ t x y ∷ t right y ∷ t left low ∷ t x low ∷ t right low ∷ [] in
    let pixel = middle_pixel depth (divisor v) (p left high) (p x high) (p right high) (p left y) (p x y) (p right y)
    (p left low) (p x low) (p right low) some deep in
    let whole = subst
    (λ k. convolved k (greatest depth) (middle_alone (divisor v)) (divisor v) (map value taps) ≡ p x y)
    of pixel in
    let made = subst (λ ks. convolved c (greatest depth) ks (divisor v) (map value taps) ≡ p x y)
    (sym keeps.factors_are)
    whole in
    subst (λ ts. (convolved c (greatest depth) (factors v) (divisor v) (map value ts) ≡ p x y) × Contains ts (t x y))
    (sym (nine_are t x y)) (made, (4, omega arith, refl))

convolve_same : (context : Context) (v : Values) (window : Bounds) (clip : ℕ) (frame : ℤ) (depth : Depth)
    (c : Components) (value : TapPixels) → IsGiven convolve_shape context v depth c value
    → convolve3.same v window ≡ Same clip frame → IsSameAs convolve3 context v depth c value window clip frame
convolve_same context v window clip frame depth c value given same =
    let is = same_source (keeps_source v) v.frame clip frame same in
    let divides = divisor_some context v given.lawful in
    let keeps = keeps_tells v divides.2 is.0 in
    let here = λ (x y : ℤ).
    let t = tap 0 v.frame x y in
    convolved_here v depth c value x y divides.0 keeps (given.depth_is t) (given.components_are t) in
    rw (is.1, is.2)
    (record {
      connected = source_connected v.connected given.lawful.connected;
      no_mask = refl;
      pixels = λ x y inside. (here x y).0;
      read = λ x y inside. (here x y).1;
    })

-- ---- its laws

pub convolve3_laws : Laws convolve3
convolve3_laws =
    record {
      shape = shape_is convolve_shape refl;
      interest_holds_taps = λ context v r x y lawful inside.
          let g = grown r (pos 1) (pos 1) in
          All-nine (IsCovered (length v.connected) (default_spans v) (λ clip. g)) (tap 0 v.frame) x y
          (λ i j a b l m. covered_here (length v.connected) 0 v g i j
          (source_flag v.connected lawful.connected)
          (in_grown r 1 1 i j x y inside (omega (arith, ints)) (omega (arith, ints)) (omega (arith, ints))
          (omega (arith, ints))));
      zero_outside_region = λ context v regions depth c value x y given are zeros outside.
          let taps = nine (tap 0 v.frame) x y in
          convolved_clear c (greatest depth) (factors v) (divisor v) (map value taps)
          (divisor_some context v given.lawful).0
          (All-map (λ p. p ≡ clear c) value taps
          (All-nine (λ t. value t ≡ clear c) (tap 0 v.frame) x y
          (λ i j a b l m. zeros (tap 0 v.frame i j)
          (λ held. outside (in_grown (region_of regions 0) 1 1 x y i j held a b l m)))));
      identity_is_tap = convolve_same;
      frames_near = λ context v clip lawful. default_spans_near v clip;
      region_near = λ context v regions n lawful are up_to.
          grown_near n (region_of regions 0) 1 1 (omega arith) (omega arith) (region_up_to n v.project regions up_to);
      interest_near = λ context v r clip n lawful rect up_to.
          grown_near n r 1 1 (omega arith) (omega arith) (up_to 1 v.project (omega arith));
      region_is_rect = λ context v regions lawful are. grown_is_rect (region_of regions 0) 1 1;
      interest_is_rect = λ context v r clip lawful rect. grown_is_rect r 1 1;
      pixel = λ context v depth c value x y given.
          let pixels = map value (nine (tap 0 v.frame) x y) in
          let sum_at = λ (k : ℕ). sum_of_products (factors v) (map (λ p. nth p k) pixels) in
          each_is_pixel depth c
          (λ k. clamped (greatest depth) (rounded_z (sum_at k) (divisor v)))
          (λ k. clamped_few (greatest depth) _);
      whole_within_project = λ context v regions whole lawful are. absurd cc;
    }
