-- What every effect keeps, of translate.
use Rattle.std.specs.Prelude.{◌≡◌, ◌≤◌, ◌<◌, ℕ, ◌+◌, ◌-◌, ◌*◌, ◌/◌, ◌==◌, ℤ, pos, negsuc, neg_ℤ, ◌≤ℤ◌, ◌<ℤ◌, ◌+ℤ◌, ◌-ℤ◌, ◌*ℤ◌, unsigned_abs, Bool, true, false, ◌&&◌, List, [], ◌∷◌, length, map, All, refl}
use Rattle.std.specs.List.{Contains}
use Rattle.std.specs.Int.{int_div_euclid}
use Rattle.std.specs.Ordering.{int_eq}
use Rattle.std.proofs.Common.{inl, ap, sym, subst, arith, ◌∙◌}
use Rattle.std.proofs.Math.Nat.{mul-le-mul_left}
use Rattle.std.proofs.lemmas.Bool.{and_parts}
use Rattle.std.proofs.lemmas.Bool.Decides.{Decides-int_eq}
use Rattle.std.proofs.lemmas.Int.{ints}
use Rattle.std.proofs.lemmas.List.Elements.{All-head, All-tail, All-map, All-weaker}
use Rattle.fx_base.specs.Bounds.{Bounds, IsRect, none}
use Rattle.fx_base.specs.Rect.{Holds, IsUpTo, IsStep, is_empty, stretched}
use Rattle.fx_base.specs.Run.{int_run}
use Rattle.fx_base.proofs.RunLaws.{All-run, All-flat_map}
use Rattle.fx_base.proofs.CoverLemmas.{IsFloor-div}
use Rattle.fx_base.proofs.RectLemmas.{IsInside-from_holds, Holds-from_inside, IsProper, IsProper-from_test, IsRect-proper, is_empty-proper}
use Rattle.fx_base.proofs.RectLaws.{IsUpTo-none}
use Rattle.fx_pixel.specs.declared.Depth.{Depth}
use Rattle.fx_pixel.specs.declared.Components.{Components}
use Rattle.fx_pixel.specs.declared.Pixel.{Pixel}
use Rattle.fx_pixel.specs.Pixel.{greatest, zero as clear, IsOfDepth, components_of}
use Rattle.fx_kernel.specs.Samples.{nth}
use Rattle.fx_kernel.specs.SampleLaws.{nth_bound, nth_clear, each_same, each_of, each_clear, each_is_pixel}
use Rattle.fx_kernel.specs.Blends.{in_units}
use Rattle.fx_kernel.specs.BlendLaws.{in_units-bound}
use Rattle.fx_props.specs.Entries.{region_of}
use Rattle.fx_effect.specs.Tap.{Tap, tap}
use Rattle.fx_effect.specs.Shape.{IsLawfulIn}
use Rattle.fx_effect.specs.Numbers.{number}
use Rattle.fx_effect.specs.NumberLaws.{number_between}
use Rattle.fx_effect.specs.Default.{default_spans}
use Rattle.fx_effect.specs.DefaultLaws.{default_spans_near, covered_here}
use Rattle.fx_effect.specs.Laws.{Laws, TapPixels, IsCovered, IsGiven, IsSameAs}
use Rattle.fx_effect.specs.ShapeTests.{shape_is}
use Rattle.fx_effect.specs.declared.action.Context.{Context}
use Rattle.fx_effect.specs.declared.action.Identity.TheVariants.{Same}
use Rattle.fx_effect.specs.declared.values.Values.{Values}
use Rattle.fx_move.specs.declared.translate.Along.{Along}
use Rattle.fx_effect.specs.SourceLaws.{source_flag, source_connected, same_source}
use Rattle.fx_move.specs.Translate.{distance, translate_params, along, across, upward, extra, places, weights, weighted, weighed, moved_to, moved_from, is_still, translate_shape, translate}

-- ---- distances

pub distance_near : (context : Context) (v : Values) → IsLawfulIn translate_shape context v
    → IsStep 1073741824 (number v 0) × IsStep 1073741824 (number v 1)
distance_near context v lawful =
    let dx = number_between translate_params v 0 (distance []) lawful.numbers (omega arith) in
    let dy = number_between translate_params v 1 (distance []) lawful.numbers (omega arith) in
    let a = dx.above in let b = dx.below in let c = dy.above in let d = dy.below in
    ((omega (arith, ints), omega (arith, ints)), (omega (arith, ints), omega (arith, ints)))

-- at most 16,384 pixels away, and a share below 256
pub record IsAlong (a : Along) : Type 0 where
  pub first : IsStep 16384 a.first
  pub share : a.share < 256

small_share : (z : ℤ) → pos 0 ≤ℤ z → z <ℤ pos 65536 → unsigned_abs z / 256 < 256
small_share (pos n) low high = omega (arith, ints)
small_share (negsuc n) low high = absurd (omega (arith, ints))

pub along_is : (d : ℤ) → IsStep 1073741824 d → IsAlong (along d)
along_is d step =
    let whole = IsFloor-div (neg_ℤ d) in
    let rest = neg_ℤ d -ℤ (int_div_euclid (neg_ℤ d) (pos 65536) *ℤ pos 65536) in
    let low = step.0 in
    let high = step.1 in
    record {
      first = (omega (arith, ints), omega (arith, ints));
      share = small_share rest (omega (arith, ints)) (omega (arith, ints));
    }

pub extra_few : (a : Along) → extra a ≤ 1
extra_few a = go (a.share == 0) refl
  where
    go : (b : Bool) → (a.share == 0) ≡ b → extra a ≤ 1
    go true is = rw is (omega arith)
    go false is = rw is (omega arith)

-- ---- rectangles that move

stretched_cases : (P : Bounds → Type 0) (r : Bounds) (left bottom right top : ℤ) → P none
    → (IsProper r → P (record { x1 = r.x1 +ℤ left; y1 = r.y1 +ℤ bottom; x2 = r.x2 +ℤ right; y2 = r.y2 +ℤ top }))
    → P (stretched r left bottom right top)
stretched_cases P r left bottom right top nothing some = go (is_empty r) refl
  where
    go : (b : Bool) → is_empty r ≡ b → P (stretched r left bottom right top)
    go true is = rw is nothing
    go false is = rw is (some (IsProper-from_test r is))

stretched_is_rect : (r : Bounds) (left bottom right top : ℤ) → left ≤ℤ right → bottom ≤ℤ top
    → IsRect (stretched r left bottom right top)
stretched_is_rect r left bottom right top wide high =
    stretched_cases IsRect r left bottom right top (inl refl)
    (λ proper. let w = proper.wide in let h = proper.high in
    IsRect-proper _ (record { wide = omega (arith, ints); high = omega (arith, ints) }))

step_by : (n : ℕ) (x d : ℤ) → IsStep n x → IsStep 16385 d → IsStep (n + 32768) (x +ℤ d)
step_by n x d near few =
    let a = near.0 in let b = near.1 in let e = few.0 in let f = few.1 in (omega (arith, ints), omega (arith, ints))

stretched_near : (n : ℕ) (r : Bounds) (left bottom right top : ℤ) → IsStep 16385 left → IsStep 16385 bottom
    → IsStep 16385 right → IsStep 16385 top → IsUpTo n r → IsUpTo (n + 32768) (stretched r left bottom right top)
stretched_near n r left bottom right top l b m t near =
    stretched_cases (IsUpTo (n + 32768)) r left bottom right top (IsUpTo-none (n + 32768))
    (λ proper. record {
      left = step_by n r.x1 left near.left l;
      bottom = step_by n r.y1 bottom near.bottom b;
      right = step_by n r.x2 right near.right m;
      top = step_by n r.y2 top near.top t;
    })

-- a place that lies so far from one of a rectangle
in_stretched : (r : Bounds) (left bottom right top x y i j : ℤ) → Holds r x y → (x +ℤ left) ≤ℤ i → i ≤ℤ (x +ℤ right)
    → (y +ℤ bottom) ≤ℤ j → j ≤ℤ (y +ℤ top) → Holds (stretched r left bottom right top) i j
in_stretched r left bottom right top x y i j inside a b c d =
    let p = IsInside-from_holds r x y inside in
    let l = p.left in let m = p.right in let u = p.bottom in let t = p.top in
    let proper : IsProper r = record { wide = omega (arith, ints); high = omega (arith, ints) } in
    rw (is_empty-proper r proper)
    (Holds-from_inside (record { x1 = r.x1 +ℤ left; y1 = r.y1 +ℤ bottom; x2 = r.x2 +ℤ right; y2 = r.y2 +ℤ top }) i j
    (record {
      left = omega (arith, ints);
      right = omega (arith, ints);
      bottom = omega (arith, ints);
      top = omega (arith, ints);
    }))

-- ---- places that are read

All-places : {X : Type 0} (P : X → Type 0) (at : ℤ → ℤ → X) (a : ℤ) (n : ℕ) (b : ℤ) (m : ℕ)
    → ((i j : ℤ) → a ≤ℤ i → i <ℤ (a +ℤ pos n) → b ≤ℤ j → j <ℤ (b +ℤ pos m) → P (at i j)) → All P (places at a n b m)
All-places P at a n b m h =
    All-flat_map P (λ i. map (at i) (int_run b m)) (int_run a n)
    (All-run (λ i. All P (map (at i) (int_run b m))) a n
    (λ i low high. All-map P (at i) (int_run b m)
    (All-run (λ j. P (at i j)) b m (λ j from to. h i j low high from to))))

module _ (v : Values) where
  abbrev taps : ℤ → ℤ → List Tap
  taps x y = translate.taps v x y

  -- what holds at each place that is so far away
  all_taps : (P : Tap → Type 0) (x y : ℤ)
      → ((i j : ℤ) → (x +ℤ (across v).first) ≤ℤ i → i ≤ℤ (x +ℤ ((across v).first +ℤ pos (extra (across v))))
      → (y +ℤ (upward v).first) ≤ℤ j → j ≤ℤ (y +ℤ ((upward v).first +ℤ pos (extra (upward v)))) → P (tap 0 v.frame i j))
      → All P (taps x y)
  all_taps P x y h =
      let a = across v in
      let b = upward v in
      All-places P (tap 0 v.frame) (x +ℤ a.first) (1 + extra a) (y +ℤ b.first) (1 + extra b)
      (λ i j low high from to. h i j low (omega (arith, ints)) from (omega (arith, ints)))

  covers : (r : Bounds) (x y : ℤ) → 0 < length v.connected → Holds r x y
      → All (IsCovered (length v.connected) (default_spans v) (λ clip. moved_from (across v) (upward v) r)) (taps x y)
  covers r x y flag inside =
      let a = across v in
      let b = upward v in
      all_taps (IsCovered (length v.connected) (default_spans v) (λ clip. moved_from a b r)) x y
      (λ i j low high from to. covered_here (length v.connected) 0 v (moved_from a b r) i j flag
      (in_stretched r a.first b.first (a.first +ℤ pos (extra a)) (b.first +ℤ pos (extra b)) x y i j inside low high
      from to))

  -- a place whose pixel is read lies in the region that it moves to
  reaches : (r : Bounds) (x y i j : ℤ) → Holds r i j → (x +ℤ (across v).first) ≤ℤ i
      → i ≤ℤ (x +ℤ ((across v).first +ℤ pos (extra (across v)))) → (y +ℤ (upward v).first) ≤ℤ j
      → j ≤ℤ (y +ℤ ((upward v).first +ℤ pos (extra (upward v)))) → Holds (moved_to (across v) (upward v) r) x y
  reaches r x y i j held low high from to =
      let a = across v in
      let b = upward v in
      in_stretched r (neg_ℤ a.first -ℤ pos (extra a)) (neg_ℤ b.first -ℤ pos (extra b)) (neg_ℤ a.first) (neg_ℤ b.first)
      i j x y held (omega (arith, ints)) (omega (arith, ints)) (omega (arith, ints)) (omega (arith, ints))

-- ---- weights

abbrev pub total : List ℕ → ℕ
total [] = 0
total (w ∷ ws) = w + total ws

weighted_few : (ws samples : List ℕ) (m : ℕ) → All (λ s. s ≤ m) samples → weighted ws samples ≤ total ws * m
weighted_few [] samples m all = omega arith
weighted_few (w ∷ ws) [] m all = omega arith
weighted_few (w ∷ ws) (s ∷ samples) m all =
    let rest = weighted_few ws samples m (All-tail (λ s. s ≤ m) s samples all) in
    let here = mul-le-mul_left w (All-head (λ s. s ≤ m) s samples all) in
    omega (arith, rest, here)

four_weights : (a w b u : ℕ) → a + w ≡ 256 → b + u ≡ 256 → a * b + (a * u + (w * b + (w * u + 0))) ≡ 65536
four_weights a w b u whole high =
    omega (arith, ap (λ t. a * t) high, ap (λ t. w * t) high, whole)

pub weights_are : (a b : Along) → a.share < 256 → b.share < 256 → total (weights a b) ≡ 65536
weights_are a b few low = go (a.share == 0) (b.share == 0) refl refl
  where
    go : (s t : Bool) → (a.share == 0) ≡ s → (b.share == 0) ≡ t → total (weights a b) ≡ 65536
    go true true p q = rw (p, q) refl
    go true false p q = rw (p, q) (omega arith)
    go false true p q = rw (p, q) (omega arith)
    go false false p q =
        rw (p, q) (four_weights (256 - a.share) a.share (256 - b.share) b.share (omega arith) (omega arith))

weighted_none : (c : Components) (k : ℕ) (ws : List ℕ) (pixels : List Pixel) → All (λ p. p ≡ clear c) pixels
    → weighted ws (map (λ p. nth p k) pixels) ≡ 0
weighted_none c k [] pixels all = refl
weighted_none c k (w ∷ ws) [] all = refl
weighted_none c k (w ∷ ws) (p ∷ pixels) all =
    let rest = weighted_none c k ws pixels (All-tail (λ p. p ≡ clear c) p pixels all) in
    let none : nth p k ≡ 0 = ap (λ q. nth q k) (All-head (λ p. p ≡ clear c) p pixels all) ∙ nth_clear c k in
    let here : w * nth p k ≡ 0 = ap (λ s. w * s) none ∙ omega arith in
    omega (arith, rest, here)

weighed_clear : (c : Components) (ws : List ℕ) (pixels : List Pixel) → All (λ p. p ≡ clear c) pixels
    → weighed c ws pixels ≡ clear c
weighed_clear c ws pixels all =
    each_same c (λ k. in_units (weighted ws (map (λ p. nth p k) pixels))) (λ k. 0)
    (λ k. ap in_units (weighted_none c k ws pixels all))
    ∙ each_clear c

weighed_is_pixel : (depth : Depth) (c : Components) (ws : List ℕ) (pixels : List Pixel) → total ws ≡ 65536
    → All (IsOfDepth depth) pixels → IsOfDepth depth (weighed c ws pixels) × (components_of (weighed c ws pixels) ≡ c)
weighed_is_pixel depth c ws pixels whole all =
    each_is_pixel depth c (λ k. in_units (weighted ws (map (λ p. nth p k) pixels)))
    (λ k.
    let few = weighted_few ws (map (λ p. nth p k) pixels) (greatest depth)
    (All-map (λ s. s ≤ greatest depth) (λ p. nth p k) pixels
    (All-weaker (IsOfDepth depth) (λ p. nth p k ≤ greatest depth) (λ p is. nth_bound depth p k is) pixels all)) in
    in_units-bound (weighted ws (map (λ p. nth p k) pixels)) (greatest depth)
    (omega (arith, few, ap (λ t. t * greatest depth) whole)))

whole_unit : (s : ℕ) → in_units (65536 * s + 0) ≡ s
whole_unit s = omega arith

weighed_one : (p : Pixel) → weighed (components_of p) (65536 ∷ []) (p ∷ []) ≡ p
weighed_one p =
    each_same (components_of p) (λ k. in_units (65536 * nth p k + 0)) (nth p) (λ k. whole_unit (nth p k)) ∙ each_of p

-- ---- standing still

zero_test : (z : ℤ) → int_eq z (pos 0) ≡ true → z ≡ pos 0
zero_test z test = (Decides-int_eq z (pos 0)).0 test

still_tells : (a : Along) → is_still a ≡ true → (a.first ≡ pos 0) × ((a.share == 0) ≡ true)
still_tells a test =
    let both = and_parts (int_eq a.first (pos 0)) (a.share == 0) test in (zero_test a.first both.0, both.1)

plus_zero : (x : ℤ) → x +ℤ pos 0 ≡ x
plus_zero x = omega (arith, ints)

-- the one pixel that is read from (i, j) on is that at (x, y)
abbrev IsOne : Along → Along → ℤ → Components → TapPixels → ℤ → ℤ → ℤ → ℤ → Type 0
IsOne a b t c value x y i j =
    let ts = places (tap 0 t) i (1 + extra a) j (1 + extra b) in
    (weighed c (weights a b) (map value ts) ≡ value (tap 0 t x y)) × Contains ts (tap 0 t x y)

still_at : (a b : Along) (t : ℤ) (c : Components) (value : TapPixels) (x y : ℤ) → (a.share == 0) ≡ true
    → (b.share == 0) ≡ true → components_of (value (tap 0 t x y)) ≡ c → IsOne a b t c value x y x y
still_at a b t c value x y flat level of =
    let P : List Tap → Type 0 =
    λ ts. (weighed c (65536 ∷ []) (map value ts) ≡ value (tap 0 t x y)) × Contains ts (tap 0 t x y) in
    let p = value (tap 0 t x y) in
    let pixel = subst (λ k. weighed k (65536 ∷ []) (p ∷ []) ≡ p) of (weighed_one p) in
    let one : P (tap 0 t x y ∷ []) = (pixel, (0, omega arith, refl)) in
    rw (flat, level) one

still_here : (a b : Along) (t : ℤ) (c : Components) (value : TapPixels) (x y : ℤ)
    → is_still a ≡ true → is_still b ≡ true
    → components_of (value (tap 0 t x y)) ≡ c → IsOne a b t c value x y (x +ℤ a.first) (y +ℤ b.first)
still_here a b t c value x y flat level of =
    let p = still_tells a flat in
    let q = still_tells b level in
    let i : x +ℤ a.first ≡ x = ap (λ z. x +ℤ z) p.0 ∙ plus_zero x in
    let j : y +ℤ b.first ≡ y = ap (λ z. y +ℤ z) q.0 ∙ plus_zero y in
    subst (λ k. IsOne a b t c value x y k (y +ℤ b.first)) (sym i)
    (subst (λ k. IsOne a b t c value x y x k) (sym j) (still_at a b t c value x y p.1 q.1 of))

translate_same : (context : Context) (v : Values) (window : Bounds) (clip : ℕ) (frame : ℤ) (depth : Depth)
    (c : Components) (value : TapPixels) → IsGiven translate_shape context v depth c value
    → translate.same v window ≡ Same clip frame → IsSameAs translate context v depth c value window clip frame
translate_same context v window clip frame depth c value given same =
    let is = same_source (is_still (across v) && is_still (upward v)) v.frame clip frame same in
    let still = and_parts (is_still (across v)) (is_still (upward v)) is.0 in
    let here = λ (x y : ℤ). still_here (across v) (upward v) v.frame c value x y still.0 still.1
    (given.components_are (tap 0 v.frame x y)) in
    rw (is.1, is.2)
    (record {
      connected = source_connected v.connected given.lawful.connected;
      no_mask = refl;
      pixels = λ x y inside. (here x y).0;
      read = λ x y inside. (here x y).1;
    })

-- ---- its laws

region_up_to : (n : ℕ) (p : Bounds) (regions : List Bounds) → All (IsUpTo n) (p ∷ regions)
    → IsUpTo n (region_of regions 0)
region_up_to n p [] up_to = IsUpTo-none n
region_up_to n p (r ∷ regions) up_to = up_to 1 p (omega arith)

step_out : (a : Along) → IsAlong a → IsStep 16385 a.first × IsStep 16385 (a.first +ℤ pos (extra a))
    × IsStep 16385 (neg_ℤ a.first) × IsStep 16385 (neg_ℤ a.first -ℤ pos (extra a))
step_out a is =
    let few = extra_few a in
    let low = is.first.0 in
    let high = is.first.1 in (
      (omega (arith, ints), omega (arith, ints)),
      (omega (arith, ints), omega (arith, ints)),
      (omega (arith, ints), omega (arith, ints)),
      (omega (arith, ints), omega (arith, ints)),
    )

pub axes_are : (context : Context) (v : Values) → IsLawfulIn translate_shape context v
    → IsAlong (across v) × IsAlong (upward v)
axes_are context v lawful =
    let near = distance_near context v lawful in (along_is (number v 0) near.0, along_is (number v 1) near.1)

to_near : (n : ℕ) (a b : Along) (r : Bounds) → IsAlong a → IsAlong b → IsUpTo n r → IsUpTo (n + 32768) (moved_to a b r)
to_near n a b r p q near =
    let x = step_out a p in
    let y = step_out b q in
    stretched_near n r (neg_ℤ a.first -ℤ pos (extra a)) (neg_ℤ b.first -ℤ pos (extra b)) (neg_ℤ a.first) (neg_ℤ b.first)
    x.3 y.3 x.2 y.2 near

from_near : (n : ℕ) (a b : Along) (r : Bounds) → IsAlong a → IsAlong b → IsUpTo n r
    → IsUpTo (n + 32768) (moved_from a b r)
from_near n a b r p q near =
    let x = step_out a p in
    let y = step_out b q in
    stretched_near n r a.first b.first (a.first +ℤ pos (extra a)) (b.first +ℤ pos (extra b)) x.0 y.0 x.1 y.1 near

to_is_rect : (a b : Along) (r : Bounds) → IsRect (moved_to a b r)
to_is_rect a b r =
    stretched_is_rect r (neg_ℤ a.first -ℤ pos (extra a)) (neg_ℤ b.first -ℤ pos (extra b))
    (neg_ℤ a.first) (neg_ℤ b.first)
    (omega (arith, ints)) (omega (arith, ints))

from_is_rect : (a b : Along) (r : Bounds) → IsRect (moved_from a b r)
from_is_rect a b r =
    stretched_is_rect r a.first b.first (a.first +ℤ pos (extra a)) (b.first +ℤ pos (extra b))
    (omega (arith, ints)) (omega (arith, ints))

pub translate_laws : Laws translate
translate_laws =
    record {
      shape = shape_is translate_shape refl;
      interest_holds_taps = λ context v r x y lawful inside.
          covers v r x y (source_flag v.connected lawful.connected) inside;
      zero_outside_region = λ context v regions depth c value x y given are zeros outside.
          weighed_clear c (weights (across v) (upward v)) (map value (translate.taps v x y))
          (All-map (λ p. p ≡ clear c) value (translate.taps v x y)
          (all_taps v (λ t. value t ≡ clear c) x y
          (λ i j low high from to. zeros (tap 0 v.frame i j)
          (λ held. outside (reaches v (region_of regions 0) x y i j held low high from to)))));
      identity_is_tap = translate_same;
      frames_near = λ context v clip lawful. default_spans_near v clip;
      region_near = λ context v regions n lawful are up_to.
          let axes = axes_are context v lawful in
          to_near n (across v) (upward v) (region_of regions 0) axes.0 axes.1 (region_up_to n v.project regions up_to);
      interest_near = λ context v r clip n lawful rect up_to.
          let axes = axes_are context v lawful in
          from_near n (across v) (upward v) r axes.0 axes.1 (up_to 1 v.project (omega arith));
      region_is_rect = λ context v regions lawful are. to_is_rect (across v) (upward v) (region_of regions 0);
      interest_is_rect = λ context v r clip lawful rect. from_is_rect (across v) (upward v) r;
      pixel = λ context v depth c value x y given.
          let axes = axes_are context v given.lawful in
          weighed_is_pixel depth c (weights (across v) (upward v)) (map value (translate.taps v x y))
          (weights_are (across v) (upward v) axes.0.share axes.1.share)
          (All-map (IsOfDepth depth) value (translate.taps v x y)
          (all_taps v (λ t. IsOfDepth depth (value t)) x y
          (λ i j low high from to. given.depth_is (tap 0 v.frame i j))));
      whole_within_project = λ context v regions whole lawful are. absurd cc;
    }
