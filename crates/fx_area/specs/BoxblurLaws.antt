-- What every effect keeps, of boxblur.
use Rattle.std.specs.Prelude.{◌≡◌, ◌≤◌, ◌<◌, ℕ, ◌==◌, ◌&&◌, ℤ, pos, true, List, [], ◌∷◌, map, refl}
use Rattle.std.specs.List.{Contains}
use Rattle.std.proofs.Common.{arith, sym, subst, ◌∙◌}
use Rattle.std.proofs.lemmas.Bool.Decides.{nat_tests}
use Rattle.std.proofs.lemmas.List.Elements.{All-map}
use Rattle.fx_base.specs.Bounds.{Bounds}
use Rattle.fx_base.specs.Rect.{Holds, grown}
use Rattle.fx_pixel.specs.declared.Depth.{Depth}
use Rattle.fx_pixel.specs.declared.Components.{Components}
use Rattle.fx_pixel.specs.Pixel.{zero as clear, IsOfDepth, components_of}
use Rattle.fx_kernel.specs.Samples.{mean_of}
use Rattle.fx_kernel.specs.SampleLaws.{mean_clear, mean_one, mean_is_pixel}
use Rattle.fx_kernel.specs.Around.{square}
use Rattle.fx_kernel.specs.AroundLaws.{All-square, length-square, length-mapped, square_one}
use Rattle.fx_props.specs.Entries.{region_of}
use Rattle.fx_effect.specs.Tap.{Tap, tap}
use Rattle.fx_effect.specs.Shape.{IsLawfulIn}
use Rattle.fx_effect.specs.NumberLaws.{number_between}
use Rattle.fx_effect.specs.Numbers.{number}
use Rattle.fx_effect.specs.Meaning.{mixed}
use Rattle.fx_effect.specs.DefaultLaws.{default_spans_near}
use Rattle.fx_effect.specs.Laws.{Laws, TapPixels, IsGiven, IsSameAs, IsZeroOutside}
use Rattle.fx_effect.specs.ShapeTests.{shape_is}
use Rattle.fx_effect.specs.declared.action.Context.{Context}
use Rattle.fx_effect.specs.declared.action.Identity.TheVariants.{Same}
use Rattle.fx_effect.specs.declared.values.Values.{Values}
use Rattle.fx_effect.specs.SourceLaws.{source_flag, source_connected, same_source}
use Rattle.fx_area.specs.GrownLaws.{in_grown, grown_is_rect, grown_near, region_up_to, square_covered, natural_few}
use Rattle.fx_area.specs.Boxblur.{box_radius, radii, rx, ry, box_count, boxblur_shape, boxblur}

pub rx_few : (context : Context) (v : Values) → IsLawfulIn boxblur_shape context v → rx v ≤ 64
rx_few context v lawful =
    let between = number_between radii v 0 (box_radius []) lawful.numbers (omega arith) in
    natural_few (number v 0) 64 between.above between.below

pub ry_few : (context : Context) (v : Values) → IsLawfulIn boxblur_shape context v → ry v ≤ 64
ry_few context v lawful =
    let between = number_between radii v 1 (box_radius []) lawful.numbers (omega arith) in
    natural_few (number v 1) 64 between.above between.below

box_some : (h v : ℕ) → 0 < box_count h v
box_some h v = omega arith

boxblur_clear : (context : Context) (v : Values) (regions : List Bounds) (depth : Depth) (c : Components)
    (value : TapPixels) (x y : ℤ) → IsZeroOutside boxblur_shape context c regions value
    → (Holds (grown (region_of regions 0) (pos (rx v)) (pos (ry v))) x y → ⊥)
    → mixed boxblur v depth c value x y ≡ clear c
boxblur_clear context v regions depth c value x y zeros outside =
    let taps = square (tap 0 v.frame) (rx v) (ry v) x y in
    mean_clear c (box_count (rx v) (ry v)) (map value taps) (box_some (rx v) (ry v))
    (All-map (λ p. p ≡ clear c) value taps
    (All-square (λ t. value t ≡ clear c) (tap 0 v.frame) (rx v) (ry v) x y
    (λ i j l m b t. zeros (tap 0 v.frame i j)
    (λ held. outside (in_grown (region_of regions 0) (rx v) (ry v) x y i j held l m b t)))))

boxblur_pixel : (v : Values) (depth : Depth) (c : Components) (value : TapPixels) (x y : ℤ)
    → ((t : Tap) → IsOfDepth depth (value t))
    → IsOfDepth depth (mixed boxblur v depth c value x y) × (components_of (mixed boxblur v depth c value x y) ≡ c)
boxblur_pixel v depth c value x y of_depth =
    let taps = square (tap 0 v.frame) (rx v) (ry v) x y in
    mean_is_pixel depth c (box_count (rx v) (ry v)) (map value taps) (box_some (rx v) (ry v))
    (length-mapped value taps ∙ length-square (tap 0 v.frame) (rx v) (ry v) x y)
    (All-map (IsOfDepth depth) value taps
    (All-square (λ t. IsOfDepth depth (value t)) (tap 0 v.frame) (rx v) (ry v) x y
    (λ i j l m b t. of_depth (tap 0 v.frame i j))))

-- with radii of 0
boxblur_here : (frame : ℤ) (h v : ℕ) (c : Components) (value : TapPixels) (x y : ℤ) → h ≡ 0 → v ≡ 0
    → components_of (value (tap 0 frame x y)) ≡ c
    → (mean_of c (box_count h v) (map value (square (tap 0 frame) h v x y)) ≡ value (tap 0 frame x y))
    × Contains (square (tap 0 frame) h v x y) (tap 0 frame x y)
boxblur_here frame h v c value x y none_wide none_high of =
    let t = tap 0 frame x y in
    let P : List Tap → Type 0 = λ taps. (mean_of c 1 (map value taps) ≡ value t) × Contains taps t in
    let one : P (t ∷ []) =
    (subst (λ k. mean_of k 1 (value t ∷ []) ≡ value t) of (mean_one (value t)), (0, omega arith, refl)) in
    rw (none_wide, none_high) (subst P (sym (square_one (tap 0 frame) x y)) one)

both_zero : (a b : ℕ) → (a == 0 && b == 0) ≡ true → (a ≡ 0) × (b ≡ 0)
both_zero a b h = (grind (arith, nat_tests), grind (arith, nat_tests))

boxblur_same : (context : Context) (v : Values) (window : Bounds) (clip : ℕ) (frame : ℤ) (depth : Depth)
    (c : Components) (value : TapPixels) → IsGiven boxblur_shape context v depth c value
    → boxblur.same v window ≡ Same clip frame → IsSameAs boxblur context v depth c value window clip frame
boxblur_same context v window clip frame depth c value given same =
    let is = same_source (rx v == 0 && ry v == 0) v.frame clip frame same in
    let none = both_zero (rx v) (ry v) is.0 in
    let here = λ (x y : ℤ). boxblur_here v.frame (rx v) (ry v) c value x y none.0 none.1
    (given.components_are (tap 0 v.frame x y)) in
    rw (is.1, is.2)
    (record {
      connected = source_connected v.connected given.lawful.connected;
      no_mask = refl;
      pixels = λ x y inside. (here x y).0;
      read = λ x y inside. (here x y).1;
    })

pub boxblur_laws : Laws boxblur
boxblur_laws =
    record {
      shape = shape_is boxblur_shape refl;
      interest_holds_taps = λ context v r x y lawful inside.
          square_covered v r (rx v) (ry v) x y (source_flag v.connected lawful.connected) inside;
      zero_outside_region = λ context v regions depth c value x y given are zeros outside.
          boxblur_clear context v regions depth c value x y zeros outside;
      identity_is_tap = boxblur_same;
      frames_near = λ context v clip lawful. default_spans_near v clip;
      region_near = λ context v regions n lawful are up_to.
          grown_near n (region_of regions 0) (rx v) (ry v) (rx_few context v lawful) (ry_few context v lawful)
          (region_up_to n v.project regions up_to);
      interest_near = λ context v r clip n lawful rect up_to.
          grown_near n r (rx v) (ry v) (rx_few context v lawful) (ry_few context v lawful)
          (up_to 1 v.project (omega arith));
      region_is_rect = λ context v regions lawful are. grown_is_rect (region_of regions 0) (rx v) (ry v);
      interest_is_rect = λ context v r clip lawful rect. grown_is_rect r (rx v) (ry v);
      pixel = λ context v depth c value x y given. boxblur_pixel v depth c value x y given.depth_is;
      whole_within_project = λ context v regions whole lawful are. absurd cc;
    }
