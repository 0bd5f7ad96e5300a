-- What every effect keeps, of echo.
use Rattle.std.specs.Prelude.{◌≡◌, ◌≤◌, ◌<◌, ℕ, ◌+◌, ◌-◌, ◌*◌, max, ℤ, pos, List, [], ◌∷◌, map, length, All, refl}
use Rattle.std.specs.List.{Contains}
use Rattle.std.proofs.Common.{zero, suc, inl, inr, ap, arith, ◌∙◌}
use Rattle.std.proofs.Math.Nat.{div-le_of_le-mul}
use Rattle.std.proofs.lemmas.Int.{ints}
use Rattle.std.proofs.lemmas.Bool.{cases_lt}
use Rattle.std.proofs.lemmas.Nat.{mul-le}
use Rattle.std.proofs.lemmas.List.Elements.{All-nil, All-cons, All-map}
use Rattle.fx_base.specs.Bounds.{Bounds}
use Rattle.fx_pixel.specs.declared.Depth.{Depth}
use Rattle.fx_pixel.specs.declared.Components.{Components}
use Rattle.fx_pixel.specs.declared.Pixel.{Pixel}
use Rattle.fx_pixel.specs.Pixel.{greatest, zero as clear, IsOfDepth, components_of}
use Rattle.fx_params.specs.Def.{int_def}
use Rattle.fx_effect.specs.Shape.{IsLawfulIn}
use Rattle.fx_effect.specs.ShapeTests.{shape_is}
use Rattle.fx_effect.specs.Numbers.{number}
use Rattle.fx_effect.specs.NumberLaws.{number_between, natural_up_to}
use Rattle.fx_effect.specs.Laws.{Laws, IsNearSpan, seen_as}
use Rattle.fx_effect.specs.DefaultLaws.{region_near, region_is_rect}
use Rattle.fx_effect.specs.Local.{Read, IsRead, IsSameRead, local_laws}
use Rattle.fx_effect.specs.declared.action.Context.{Context}
use Rattle.fx_effect.specs.declared.values.Values.{Values}
use Rattle.fx_kernel.specs.Samples.{nth}
use Rattle.fx_kernel.specs.SampleLaws.{nth_bound, nth_clear, each_same, each_of, each_clear, each_is_pixel}
use Rattle.fx_time.specs.Times.{source_at, alone}
use Rattle.fx_effect.specs.SourceLaws.{source_flag, source_connected}
use Rattle.fx_time.specs.TimesLaws.{source_holds, read_alone, near_alone, same_at_zero}
use Rattle.fx_time.specs.Echo.{echo_params, echo_shape, count, gap, back, moments, weighed, loudest, echoed, echo_reads, echo}

-- ---- its numbers

pub count_few : (context : Context) (v : Values) → IsLawfulIn echo_shape context v → count v ≤ 8
count_few context v lawful =
    natural_up_to (number v 0) 8
    (number_between echo_params v 0 (int_def [] (pos 0) (pos 0) (pos 0)) lawful.numbers (omega arith)).below

pub gap_few : (context : Context) (v : Values) → IsLawfulIn echo_shape context v → gap v ≤ 8
gap_few context v lawful =
    natural_up_to (number v 1) 8
    (number_between echo_params v 1 (int_def [] (pos 0) (pos 0) (pos 0)) lawful.numbers (omega arith)).below

-- ---- its samples

-- a sample that counts for less is no greater
pub weighed_bound : (n k s m : ℕ) → s ≤ m → weighed n k s ≤ m
weighed_bound n k s m few =
    div-le_of_le-mul (n + 1) (let h = mul-le s (n + 1 - k) m (n + 1) few (omega arith) in omega (arith, h))

loudest_bound : (n i m : ℕ) (pixels : List Pixel) → All (λ p. nth p i ≤ m) pixels → loudest n i pixels ≤ m
loudest_bound n i m [] all = omega arith
loudest_bound n i m (p ∷ pixels) all =
    let here = weighed_bound n (length pixels) (nth p i) m (all 0 p (omega arith)) in
    let rest = loudest_bound n i m pixels (λ k d low. all (suc k) d (omega (arith, low))) in
    omega (arith, here, rest)

no_weight : (n k : ℕ) → weighed n k 0 ≡ 0
no_weight n k = let h = weighed_bound n k 0 0 (omega arith) in omega (arith, h)

loudest_zero : (n i : ℕ) (c : Components) (f : Read → Pixel) (frames : List ℤ) → ((t : ℤ) → f (source_at t) ≡ clear c)
    → loudest n i (map f (map source_at frames)) ≡ 0
loudest_zero n i c f [] none = refl
loudest_zero n i c f (t ∷ frames) none =
    rw (none t, nth_clear c i, no_weight n (length (map f (map source_at frames))))
    (omega (arith, loudest_zero n i c f frames none))

echoed_zero : (n : ℕ) (c : Components) (f : Read → Pixel) (frames : List ℤ) → ((t : ℤ) → f (source_at t) ≡ clear c)
    → echoed n c (map f (map source_at frames)) ≡ clear c
echoed_zero n c f frames none =
    each_same c (λ i. loudest n i (map f (map source_at frames))) (λ i. 0) (λ i. loudest_zero n i c f frames none)
    ∙ each_clear c

-- of the current frame alone
whole_weight : (s : ℕ) → max (weighed 0 0 s) 0 ≡ s
whole_weight s = omega arith

echoed_one : (c : Components) (p : Pixel) → components_of p ≡ c → echoed 0 c (p ∷ []) ≡ p
echoed_one c p is =
    rw (← is) (each_same (components_of p) (λ i. loudest 0 i (p ∷ [])) (nth p) (λ i. whole_weight (nth p i))
    ∙ each_of p)

-- ---- its frames

pub no_step : (t : ℤ) (gap : ℕ) → back t gap 0 ≡ t
no_step t gap = let none : 0 * gap ≡ 0 = omega arith in rw none (omega (arith, ints))

all_moments : (P : ℤ → Type 0) (t : ℤ) (gap many : ℕ) → ((k : ℕ) → k < many → P (back t gap k))
    → All P (moments t gap many)
all_moments P t gap zero h = All-nil P
all_moments P t gap (suc k) h =
    All-cons P (back t gap k) (moments t gap k) (h k (omega arith))
    (all_moments P t gap k (λ j low. h j (omega (arith, low))))

listed : (t : ℤ) (gap many k : ℕ) → k < many → Contains (map alone (moments t gap many)) (alone (back t gap k))
listed t gap zero k low = absurd (omega arith)
listed t gap (suc j) k low =
    elim (cases_lt k j) [
      | inl before ↦ let there = listed t gap j k before in (suc there.0, omega (arith, there.1), there.2)
      | inr behind ↦ let is : j ≡ k = omega arith in (0, omega arith, ap (λ n. alone (back t gap n)) is)
    ]

near_back : (t : ℤ) (gap k : ℕ) → gap ≤ 8 → k ≤ 8 → IsNearSpan t (alone (back t gap k))
near_back t gap k few low =
    let h : k * gap ≤ 64 = mul-le k gap 8 8 low few in
    near_alone t (back t gap k) (omega (arith, ints, h)) (omega (arith, ints))

-- ---- its laws

reads_there : (context : Context) (v : Values) → IsLawfulIn echo_shape context v
    → All (IsRead (length v.connected) (echo.spans v)) (echo_reads v)
reads_there context v lawful =
    let R = IsRead (length v.connected) (echo.spans v) in
    All-map R source_at (moments v.frame (gap v) (suc (count v)))
    (all_moments (λ t. R (source_at t)) v.frame (gap v) (suc (count v))
    (λ k low. read_alone (length v.connected) (echo.spans v) (back v.frame (gap v) k)
    (source_flag v.connected lawful.connected) (listed v.frame (gap v) (suc (count v)) k low)))

frames_near : (context : Context) (v : Values) → IsLawfulIn echo_shape context v
    → All (IsNearSpan v.frame) (echo.spans v 0)
frames_near context v lawful =
    let few = count_few context v lawful in
    All-map (IsNearSpan v.frame) alone (moments v.frame (gap v) (suc (count v)))
    (all_moments (λ t. IsNearSpan v.frame (alone t)) v.frame (gap v) (suc (count v))
    (λ k low. near_back v.frame (gap v) k (gap_few context v lawful) (omega (arith, few, low))))

-- with no step back it is its source
shown_here : (n : ℕ) (t : ℤ) (step : ℕ) (c : Components) (value : Read → Pixel) → n ≡ 0
    → components_of (value (source_at t)) ≡ c
    → echoed n c (map value (map source_at (moments t step (suc n)))) ≡ value (source_at t)
shown_here n t step c value none is = rw (none, no_step t step) (echoed_one c (value (source_at t)) is)

read_here : (n : ℕ) (t : ℤ) (step : ℕ) → n ≡ 0 → Contains (map source_at (moments t step (suc n))) (source_at t)
read_here n t step none = (0, omega arith, ap source_at (ap (back t step) none ∙ no_step t step))

same_as_source : (context : Context) (v : Values) (window : Bounds) (clip : ℕ) (frame : ℤ) (depth : Depth)
    (c : Components) → IsLawfulIn echo_shape context v
    → count v ≡ 0 → clip ≡ 0 → frame ≡ v.frame → IsSameRead echo (echo_reads v) context v depth c window clip frame
same_as_source context v window clip frame depth c lawful none source now =
    rw (source, now) (record {
      connected = source_connected v.connected lawful.connected;
      no_mask = refl;
      read = read_here (count v) v.frame (gap v) none;
      pixels = λ value x y shown inside. shown_here (count v) v.frame (gap v) c value none
          (shown.components_are (source_at v.frame));
    })

all_shown : (depth : Depth) (i : ℕ) (value : Read → Pixel) (frames : List ℤ) → ((r : Read) → IsOfDepth depth (value r))
    → All (λ p. nth p i ≤ greatest depth) (map value (map source_at frames))
all_shown depth i value [] of_depth = All-nil (λ p. nth p i ≤ greatest depth)
all_shown depth i value (t ∷ frames) of_depth =
    All-cons (λ p. nth p i ≤ greatest depth) (value (source_at t)) (map value (map source_at frames))
    (nth_bound depth (value (source_at t)) i (of_depth (source_at t))) (all_shown depth i value frames of_depth)

pub echo_laws : Laws echo
echo_laws =
    local_laws echo echo_reads (shape_is echo_shape refl) (record {
      taps = λ v x y. refl;
      interest = λ v r clip. refl;
      reads_there = reads_there;
      frames_near = λ context v clip lawful. frames_near context v lawful;
      region_near = λ context v regions n lawful are up_to. region_near n 0 v.project regions up_to;
      region_is_rect = λ context v regions lawful are. region_is_rect 0 v regions are;
      whole = λ context v regions whole lawful are. absurd cc;
      region_holds =
          λ context v regions r x y lawful are there held. source_holds (moments v.frame (gap v) (suc (count v)))
          regions r x y there held;
      zero_stays =
          λ context v depth c x y lawful supported. echoed_zero (count v) c
          (λ r. clear (seen_as echo_shape context c r.0)) (moments v.frame (gap v) (suc (count v))) (λ t. refl);
      pixel = λ context v depth c value x y lawful supported shown.
          each_is_pixel depth c (λ i. loudest (count v) i (map value (echo_reads v)))
          (λ i. loudest_bound (count v) i (greatest depth) (map value (echo_reads v))
          (all_shown depth i value (moments v.frame (gap v) (suc (count v))) shown.depth_is));
      same = λ context v window clip frame depth c lawful supported answer.
          let is = same_at_zero (count v) v.frame clip frame answer in
          same_as_source context v window clip frame depth c lawful is.0 is.1 is.2;
    })
