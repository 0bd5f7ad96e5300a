-- What every effect keeps, of frameblend.
use Rattle.std.specs.Prelude.{◌≡◌, ◌≤◌, ◌<◌, ℕ, ◌+◌, ◌*◌, ℤ, pos, ◌≤ℤ◌, ◌+ℤ◌, ◌-ℤ◌, [], ◌∷◌, length, map, All, refl}
use Rattle.std.specs.List.{Contains}
use Rattle.std.proofs.Common.{arith, ◌∙◌}
use Rattle.std.proofs.lemmas.Int.{ints}
use Rattle.std.proofs.lemmas.List.Elements.{All-map, All-nil, All-cons}
use Rattle.fx_base.specs.Bounds.{Bounds}
use Rattle.fx_base.proofs.RunLaws.{All-run}
use Rattle.fx_pixel.specs.declared.Depth.{Depth}
use Rattle.fx_pixel.specs.declared.Components.{Components}
use Rattle.fx_pixel.specs.declared.Pixel.{Pixel}
use Rattle.fx_pixel.specs.Pixel.{zero as clear, IsOfDepth, components_of}
use Rattle.fx_params.specs.Def.{int_def}
use Rattle.fx_effect.specs.Shape.{IsLawfulIn}
use Rattle.fx_effect.specs.ShapeTests.{shape_is}
use Rattle.fx_effect.specs.Numbers.{number}
use Rattle.fx_effect.specs.NumberLaws.{number_between, natural_up_to}
use Rattle.fx_effect.specs.Laws.{Laws, IsNearSpan, seen_as}
use Rattle.fx_effect.specs.DefaultLaws.{region_near, region_is_rect}
use Rattle.fx_effect.specs.Local.{Read, IsRead, IsSameRead, local_laws}
use Rattle.fx_effect.specs.declared.action.Context.{Context}
use Rattle.fx_effect.specs.declared.values.Values.{Values}
use Rattle.fx_kernel.specs.Samples.{mean_of}
use Rattle.fx_kernel.specs.SampleLaws.{mean_clear, mean_one, mean_is_pixel}
use Rattle.fx_kernel.specs.Around.{around}
use Rattle.fx_kernel.specs.AroundLaws.{length-mapped, length-int_run}
use Rattle.fx_time.specs.Times.{source_at}
use Rattle.fx_effect.specs.SourceLaws.{source_flag, source_connected}
use Rattle.fx_time.specs.TimesLaws.{source_holds, same_at_zero}
use Rattle.fx_time.specs.Frameblend.{frameblend_params, frameblend_shape, radius, blend_reads, frameblend}

pub radius_few : (context : Context) (v : Values) → IsLawfulIn frameblend_shape context v → radius v ≤ 16
radius_few context v lawful =
    natural_up_to (number v 0) 16
    (number_between frameblend_params v 0 (int_def [] (pos 0) (pos 0) (pos 0)) lawful.numbers (omega arith)).below

-- what holds of each near frame holds of what is read
All-reads : (P : Read → Type 0) (t : ℤ) (r : ℕ) → ((f : ℤ) → (t -ℤ pos r) ≤ℤ f → f ≤ℤ (t +ℤ pos r) → P (source_at f))
    → All P (blend_reads t r)
All-reads P t r h =
    All-map P source_at (around t r)
    (All-run (λ f. P (source_at f)) (t -ℤ pos r) (2 * r + 1) (λ f a b. h f a (omega (arith, ints))))

reads_there : (context : Context) (v : Values) → IsLawfulIn frameblend_shape context v
    → All (IsRead (length v.connected) (frameblend.spans v)) (blend_reads v.frame (radius v))
reads_there context v lawful =
    All-reads (IsRead (length v.connected) (frameblend.spans v)) v.frame (radius v)
    (λ f a b. record {
      there = source_flag v.connected lawful.connected;
      span = (v.frame -ℤ pos (radius v), v.frame +ℤ pos (radius v));
      listed =
          (0, omega arith, refl);
      at_frame = (a, b);
    })

count_some : (r : ℕ) → 0 < 2 * r + 1
count_some r = omega arith

blend_zero : (t : ℤ) (r : ℕ) (c : Components) (f : Read → Pixel) → ((t : ℤ) → f (source_at t) ≡ clear c)
    → mean_of c (2 * r + 1) (map f (blend_reads t r)) ≡ clear c
blend_zero t r c f none =
    mean_clear c (2 * r + 1) (map f (blend_reads t r)) (count_some r)
    (All-map (λ p. p ≡ clear c) f (blend_reads t r) (All-reads (λ a. f a ≡ clear c) t r (λ k a b. none k)))

blend_is_pixel : (t : ℤ) (r : ℕ) (depth : Depth) (c : Components) (value : Read → Pixel)
    → ((a : Read) → IsOfDepth depth (value a))
    → let p = mean_of c (2 * r + 1) (map value (blend_reads t r)) in IsOfDepth depth p × (components_of p ≡ c)
blend_is_pixel t r depth c value of_depth =
    mean_is_pixel depth c (2 * r + 1) (map value (blend_reads t r)) (count_some r)
    (length-mapped value (blend_reads t r) ∙ length-mapped source_at (around t r)
    ∙ length-int_run (t -ℤ pos r) (2 * r + 1))
    (All-map (IsOfDepth depth) value (blend_reads t r)
    (All-reads (λ a. IsOfDepth depth (value a)) t r (λ k a b. of_depth (source_at k))))

-- ---- with a radius of 0

minus_zero : (a : ℤ) → a -ℤ pos 0 ≡ a
minus_zero a = omega (arith, ints)

one_read : (t : ℤ) (r : ℕ) → r ≡ 0 → blend_reads t r ≡ source_at t ∷ []
one_read t r none = rw (none, minus_zero t) refl

shown_here : (t : ℤ) (r : ℕ) (c : Components) (value : Read → Pixel) → r ≡ 0 → components_of (value (source_at t)) ≡ c
    → mean_of c (2 * r + 1) (map value (blend_reads t r)) ≡ value (source_at t)
shown_here t r c value none is =
    rw (one_read t r none, none, ← is) (mean_one (value (source_at t)))

read_here : (t : ℤ) (r : ℕ) → r ≡ 0 → Contains (blend_reads t r) (source_at t)
read_here t r none = rw (one_read t r none) (0, omega arith, refl)

same_as_source : (context : Context) (v : Values) (window : Bounds) (clip : ℕ) (frame : ℤ) (depth : Depth)
    (c : Components) → IsLawfulIn frameblend_shape context v
    → radius v ≡ 0 → clip ≡ 0 → frame ≡ v.frame
    → IsSameRead frameblend (blend_reads v.frame (radius v)) context v depth c window clip frame
same_as_source context v window clip frame depth c lawful none source now =
    rw (source, now) (record {
      connected = source_connected v.connected lawful.connected;
      no_mask = refl;
      read = read_here v.frame (radius v) none;
      pixels = λ value x y shown inside. shown_here v.frame (radius v) c value none
          (shown.components_are (source_at v.frame));
    })

near_span : (t : ℤ) (r : ℕ) → r ≤ 16 → All (IsNearSpan t) ((t -ℤ pos r, t +ℤ pos r) ∷ [])
near_span t r few =
    All-cons (IsNearSpan t) (t -ℤ pos r, t +ℤ pos r) []
    (record {
      first_after = omega (arith, ints);
      first_before = omega (arith, ints);
      last_after = omega (arith, ints);
      last_before = omega (arith, ints);
    })
    (All-nil (IsNearSpan t))

pub frameblend_laws : Laws frameblend
frameblend_laws =
    local_laws frameblend (λ v. blend_reads v.frame (radius v)) (shape_is frameblend_shape refl) (record {
      taps = λ v x y. refl;
      interest = λ v r clip. refl;
      reads_there = reads_there;
      frames_near = λ context v clip lawful. near_span v.frame (radius v) (radius_few context v lawful);
      region_near = λ context v regions n lawful are up_to. region_near n 0 v.project regions up_to;
      region_is_rect = λ context v regions lawful are. region_is_rect 0 v regions are;
      whole = λ context v regions whole lawful are. absurd cc;
      region_holds =
          λ context v regions r x y lawful are there held. source_holds (around v.frame (radius v)) regions r x y there
          held;
      zero_stays =
          λ context v depth c x y lawful supported. blend_zero v.frame (radius v) c
          (λ r. clear (seen_as frameblend_shape context c r.0)) (λ t. refl);
      pixel = λ context v depth c value x y lawful supported shown. blend_is_pixel v.frame (radius v) depth c value
          shown.depth_is;
      same = λ context v window clip frame depth c lawful supported answer.
          let is = same_at_zero (radius v) v.frame clip frame answer in
          same_as_source context v window clip frame depth c lawful is.0 is.1 is.2;
    })
