-- What every effect keeps, of merge.
use Rattle.std.specs.Prelude.{◌≡◌, ◌≤◌, ◌<◌, ℕ, ◌+◌, ◌-◌, ◌*◌, length, All, refl}
use Rattle.std.proofs.Common.{inl, inr, ap, subst, arith, ◌∙◌}
use Rattle.std.proofs.Math.Nat.{mul-le-mul_left}
use Rattle.std.proofs.lemmas.Bool.{cases_lt}
use Rattle.std.proofs.lemmas.Nat.{le-div}
use Rattle.std.proofs.lemmas.List.Elements.{All-from_recursion}
use Rattle.fx_pixel.specs.declared.Depth.{Depth}
use Rattle.fx_pixel.specs.declared.Depth.TheVariants as depths
use Rattle.fx_pixel.specs.declared.Components.{Components}
use Rattle.fx_pixel.specs.declared.Components.TheVariants as components
use Rattle.fx_pixel.specs.declared.Pixel.{Pixel}
use Rattle.fx_pixel.specs.Pixel.{greatest, zero as clear, IsOfDepth, components_of}
use Rattle.fx_effect.specs.Shape.{IsLawfulIn}
use Rattle.fx_effect.specs.ShapeTests.{shape_is}
use Rattle.fx_effect.specs.Numbers.{number}
use Rattle.fx_effect.specs.Laws.{Laws}
use Rattle.fx_effect.specs.DefaultLaws.{default_spans_near, flag_for_each}
use Rattle.fx_effect.specs.Default.{default_spans}
use Rattle.fx_effect.specs.Local.{IsRead, local_laws}
use Rattle.fx_effect.specs.declared.action.Context.{Context}
use Rattle.fx_effect.specs.declared.values.Values.{Values}
use Rattle.fx_kernel.specs.Samples.{nth, each, rounded}
use Rattle.fx_kernel.specs.SampleLaws.{nth_bound, nth_clear, each_same, each_clear, each_is_pixel, rounded_bound, rounded_zero}
use Rattle.fx_kernel.specs.Blends.{product}
use Rattle.fx_kernel.specs.BlendLaws.{product_bound}
use Rattle.fx_merge.specs.declared.operation.Operation.{Operation}
use Rattle.fx_merge.specs.declared.operation.Operation.TheVariants.{Over, Plus, Multiply, Screen, Min, Max, Minus}
use Rattle.fx_effect.specs.PairLaws.{both_reads, read_here, both_near, both_rect, both_hold}
use Rattle.fx_merge.specs.Merge.{operated, merged, operation_at, merge_shape, merge}

-- ---- samples

pub greatest_some : (depth : Depth) → 0 < greatest depth
greatest_some depths.Byte = omega arith
greatest_some depths.Short = omega arith

-- a quotient that is rounded is no less than a whole number that the quotient is no less than
rounded_least : (p q z : ℕ) → 0 < q → q * z ≤ p → z ≤ rounded p q
rounded_least p q z some enough = le-div z (2 * p + q) (2 * q) (omega arith) (omega (arith, enough))

-- a product is no more than either of the samples
pub product_below : (m a b : ℕ) → 0 < m → b ≤ m → product m a b ≤ a
product_below m a b some low = rounded_bound (a * b) m a some (omega (arith, mul-le-mul_left a low))

-- what two samples have above the greatest is no more than their product
room : (z j b : ℕ) → z ≤ b → (b + j) * z ≤ (z + j) * b
room z j b low = omega (arith, mul-le-mul_left j low)

above_room : (m a b : ℕ) → a ≤ m → b ≤ m → m ≤ a + b → m * (a + b - m) ≤ a * b
above_room m a b few low high =
    let z = a + b - m in
    let j = m - b in
    let whole : b + j ≡ m = omega arith in
    let first : z + j ≡ a = omega arith in
    subst (λ n. n * z ≤ a * b) whole (subst (λ n. (b + j) * z ≤ n * b) first (room z j b (omega arith)))

pub screen_low : (m a b : ℕ) → 0 < m → a ≤ m → b ≤ m → a + b - product m a b ≤ m
screen_low m a b some few low =
    elim (cases_lt m (a + b)) [
      | inl high ↦ let h =
          rounded_least (a * b) m (a + b - m) some (above_room m a b few low (omega arith)) in omega (arith, h)
      | inr low ↦ omega arith
    ]

pub operated_bound : (operation : Operation) (m alpha a b : ℕ) → 0 < m → alpha ≤ m → a ≤ m → b ≤ m
    → operated operation m alpha a b ≤ m
operated_bound Over m alpha a b some shown few low = omega arith
operated_bound Plus m alpha a b some shown few low = omega arith
operated_bound Multiply m alpha a b some shown few low = product_bound m a b some few low
operated_bound Screen m alpha a b some shown few low = screen_low m a b some few low
operated_bound Min m alpha a b some shown few low = omega arith
operated_bound Max m alpha a b some shown few low = omega arith
operated_bound Minus m alpha a b some shown few low = omega arith

none_of : (m : ℕ) → 0 < m → (k : ℕ) → product m 0 k ≡ 0
none_of m some k = let none : 0 * k ≡ 0 = omega arith in ap (λ p. rounded p m) none ∙ rounded_zero m some

operated_zero : (operation : Operation) (m alpha : ℕ) → 0 < m → operated operation m alpha 0 0 ≡ 0
operated_zero Over m alpha some = omega (arith, none_of m some (m - alpha))
operated_zero Plus m alpha some = omega arith
operated_zero Multiply m alpha some = none_of m some 0
operated_zero Screen m alpha some = omega (arith, none_of m some 0)
operated_zero Min m alpha some = omega arith
operated_zero Max m alpha some = omega arith
operated_zero Minus m alpha some = omega arith

-- ---- pixels

pub clear_components : (c : Components) → components_of (clear c) ≡ c
clear_components components.Rgba = refl
clear_components components.Alpha = refl

merged_zero : (operation : Operation) (m : ℕ) (c : Components) → 0 < m
    → merged operation m (clear c) (clear c) ≡ clear c
merged_zero operation m c some =
    each_same (components_of (clear c))
    (λ k. operated operation m (nth (clear c) 3) (nth (clear c) k) (nth (clear c) k)) (λ k. 0)
    (λ k. rw (nth_clear c k) (operated_zero operation m (nth (clear c) 3) some))
    ∙ ap (λ d. each d (λ k. 0)) (clear_components c) ∙ each_clear c

merged_is_pixel : (operation : Operation) (depth : Depth) (c : Components) (p q : Pixel) → IsOfDepth depth p
    → IsOfDepth depth q
    → components_of p ≡ c
    → IsOfDepth depth (merged operation (greatest depth) p q)
    × (components_of (merged operation (greatest depth) p q) ≡ c)
merged_is_pixel operation depth c p q first second is =
    let m = greatest depth in
    let fits = each_is_pixel depth (components_of p) (λ k. operated operation m (nth p 3) (nth p k) (nth q k))
    (λ k. operated_bound operation m (nth p 3) (nth p k) (nth q k) (greatest_some depth) (nth_bound depth p 3 first)
    (nth_bound depth p k first) (nth_bound depth q k second)) in
    (fits.0, fits.1 ∙ is)

-- ---- its laws

reads_there : (context : Context) (v : Values) → IsLawfulIn merge_shape context v
    → All (IsRead (length v.connected) (default_spans v)) (both_reads v)
reads_there context v lawful =
    let flags : length v.connected ≡ 2 = flag_for_each (merge_shape.clips context) v.connected lawful.connected in
    All-from_recursion (IsRead (length v.connected) (default_spans v)) (both_reads v)
    (read_here (length v.connected) 0 v (omega arith), (read_here (length v.connected) 1 v (omega arith), tt))

pub merge_laws : Laws merge
merge_laws =
    local_laws merge both_reads (shape_is merge_shape refl) (record {
      taps = λ v x y. refl;
      interest = λ v r clip. refl;
      reads_there = reads_there;
      frames_near = λ context v clip lawful. default_spans_near v clip;
      region_near = λ context v regions n lawful are up_to. both_near n v.project regions up_to;
      region_is_rect = λ context v regions lawful are. both_rect v regions are;
      whole = λ context v regions whole lawful are. absurd cc;
      region_holds = λ context v regions r x y lawful are there held. both_hold v regions r x y there held;
      zero_stays =
          λ context v depth c x y lawful supported. merged_zero (operation_at (number v 0)) (greatest depth) c
          (greatest_some depth);
      pixel = λ context v depth c value x y lawful supported shown.
          merged_is_pixel (operation_at (number v 0)) depth c (value (0, v.frame)) (value (1, v.frame))
          (shown.depth_is (0, v.frame)) (shown.depth_is (1, v.frame)) (shown.components_are (0, v.frame));
      same = λ context v window clip frame depth c lawful supported answer. absurd cc;
    })
