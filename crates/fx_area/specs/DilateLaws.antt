-- What every effect keeps, of dilate.
use Rattle.std.specs.Prelude.{◌≡◌, ◌≤◌, ℕ, ℤ, pos, List, map, codes, refl}
use Rattle.std.proofs.Common.{arith}
use Rattle.std.proofs.lemmas.List.Elements.{All-map}
use Rattle.fx_base.specs.Bounds.{Bounds}
use Rattle.fx_base.specs.Rect.{Holds, grown}
use Rattle.fx_pixel.specs.declared.Depth.{Depth}
use Rattle.fx_pixel.specs.declared.Components.{Components}
use Rattle.fx_pixel.specs.Pixel.{greatest, zero as clear}
use Rattle.fx_kernel.specs.AroundLaws.{All-square}
use Rattle.fx_props.specs.Entries.{region_of}
use Rattle.fx_effect.specs.Tap.{tap}
use Rattle.fx_effect.specs.Meaning.{mixed}
use Rattle.fx_effect.specs.DefaultLaws.{default_spans_near}
use Rattle.fx_effect.specs.Laws.{Laws, TapPixels, IsGiven, IsSameAs, IsZeroOutside}
use Rattle.fx_effect.specs.ShapeTests.{shape_is}
use Rattle.fx_effect.specs.declared.action.Context.{Context}
use Rattle.fx_effect.specs.declared.action.Identity.TheVariants.{Same}
use Rattle.fx_effect.specs.declared.values.Values.{Values}
use Rattle.fx_area.specs.declared.extreme.Extreme.TheVariants.{Greatest}
use Rattle.fx_effect.specs.SourceLaws.{source_flag, source_connected}
use Rattle.fx_area.specs.GrownLaws.{in_grown, grown_is_rect, grown_near, region_up_to, square_covered}
use Rattle.fx_area.specs.ExtremeLaws.{greatest_clear}
use Rattle.fx_area.specs.Erode.{radius, square_taps, radius_shape}
use Rattle.fx_area.specs.ErodeLaws.{radius_few, extreme_pixel, extreme_same}
use Rattle.fx_area.specs.Dilate.{dilate}

dilate_clear : (context : Context) (v : Values) (regions : List Bounds) (depth : Depth) (c : Components)
    (value : TapPixels) (x y : ℤ) → IsZeroOutside (radius_shape (codes "dilate")) context c regions value
    → (Holds (grown (region_of regions 0) (pos (radius v)) (pos (radius v))) x y → ⊥)
    → mixed dilate v depth c value x y ≡ clear c
dilate_clear context v regions depth c value x y zeros outside =
    greatest_clear c (greatest depth) (map value (square_taps v x y))
    (All-map (λ p. p ≡ clear c) value (square_taps v x y)
    (All-square (λ t. value t ≡ clear c) (tap 0 v.frame) (radius v) (radius v) x y
    (λ i j l m b t. zeros (tap 0 v.frame i j)
    (λ held. outside (in_grown (region_of regions 0) (radius v) (radius v) x y i j held l m b t)))))

dilate_same : (context : Context) (v : Values) (window : Bounds) (clip : ℕ) (frame : ℤ) (depth : Depth)
    (c : Components) (value : TapPixels) → IsGiven (radius_shape (codes "dilate")) context v depth c value
    → dilate.same v window ≡ Same clip frame → IsSameAs dilate context v depth c value window clip frame
dilate_same context v window clip frame depth c value given same =
    let still = extreme_same (codes "dilate") Greatest context v clip frame depth c value given same in
    rw (still.clip_is, still.frame_is)
    (record {
      connected = source_connected v.connected given.lawful.connected;
      no_mask = refl;
      pixels = λ x y inside. still.pixels x y;
      read = λ x y inside. still.read x y;
    })

few_radius : (n : ℕ) → n ≤ 32 → n ≤ 64
few_radius n few = omega arith

pub dilate_laws : Laws dilate
dilate_laws =
    record {
      shape = shape_is (radius_shape (codes "dilate")) refl;
      interest_holds_taps = λ context v r x y lawful inside.
          square_covered v r (radius v) (radius v) x y (source_flag v.connected lawful.connected) inside;
      zero_outside_region = λ context v regions depth c value x y given are zeros outside.
          dilate_clear context v regions depth c value x y zeros outside;
      identity_is_tap = dilate_same;
      frames_near = λ context v clip lawful. default_spans_near v clip;
      region_near = λ context v regions n lawful are up_to.
          let few = few_radius (radius v) (radius_few (codes "dilate") context v lawful) in
          grown_near n (region_of regions 0) (radius v) (radius v) few few (region_up_to n v.project regions up_to);
      interest_near = λ context v r clip n lawful rect up_to.
          let few = few_radius (radius v) (radius_few (codes "dilate") context v lawful) in
          grown_near n r (radius v) (radius v) few few (up_to 1 v.project (omega arith));
      region_is_rect = λ context v regions lawful are. grown_is_rect (region_of regions 0) (radius v) (radius v);
      interest_is_rect = λ context v r clip lawful rect. grown_is_rect r (radius v) (radius v);
      pixel = λ context v depth c value x y given. extreme_pixel Greatest v depth c value x y given.depth_is;
      whole_within_project = λ context v regions whole lawful are. absurd cc;
    }
