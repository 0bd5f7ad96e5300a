-- What every effect keeps, of erode, and what dilate shares with it.
use Rattle.std.specs.Prelude.{◌≡◌, ◌≤◌, ℕ, ◌+◌, ◌*◌, ◌==◌, ℤ, pos, ◌≤ℤ◌, ◌+ℤ◌, ◌-ℤ◌, true, List, [], ◌∷◌, map, codes, if◌then◌else◌, refl}
use Rattle.std.specs.List.{Contains}
use Rattle.std.proofs.Common.{arith, sym, subst}
use Rattle.std.proofs.lemmas.Int.{ints}
use Rattle.std.proofs.lemmas.Bool.Decides.{nat_tests}
use Rattle.std.proofs.lemmas.List.Elements.{All-map}
use Rattle.fx_base.specs.Bounds.{Bounds}
use Rattle.fx_base.specs.Rect.{Holds}
use Rattle.fx_base.proofs.RunLaws.{Contains-run, Contains-map, Contains-flat_map}
use Rattle.fx_pixel.specs.declared.Depth.{Depth}
use Rattle.fx_pixel.specs.declared.Components.{Components}
use Rattle.fx_pixel.specs.Pixel.{greatest, zero as clear, IsOfDepth, components_of}
use Rattle.fx_kernel.specs.Around.{around, column, square}
use Rattle.fx_kernel.specs.AroundLaws.{All-square, square_one}
use Rattle.fx_props.specs.Entries.{region_of}
use Rattle.fx_effect.specs.Tap.{Tap, tap}
use Rattle.fx_effect.specs.Shape.{IsLawfulIn}
use Rattle.fx_effect.specs.NumberLaws.{number_between}
use Rattle.fx_effect.specs.Numbers.{number}
use Rattle.fx_effect.specs.Meaning.{mixed}
use Rattle.fx_effect.specs.DefaultLaws.{default_spans_near, region_near, region_is_rect}
use Rattle.fx_effect.specs.Laws.{Laws, TapPixels, IsGiven, IsSameAs, IsZeroOutside}
use Rattle.fx_effect.specs.ShapeTests.{shape_is}
use Rattle.fx_effect.specs.declared.action.Context.{Context}
use Rattle.fx_effect.specs.declared.action.Identity.TheVariants.{Same, No}
use Rattle.fx_effect.specs.declared.values.Values.{Values}
use Rattle.fx_params.specs.Def.{int_def}
use Rattle.fx_area.specs.declared.extreme.Extreme.{Extreme}
use Rattle.fx_area.specs.declared.extreme.Extreme.TheVariants.{Least}
use Rattle.fx_effect.specs.SourceLaws.{source_flag, source_connected, same_source}
use Rattle.fx_area.specs.GrownLaws.{grown_is_rect, grown_near, square_covered, natural_few}
use Rattle.fx_area.specs.Extreme.{extreme_of}
use Rattle.fx_area.specs.ExtremeLaws.{extreme_is_pixel, extreme_one, least_clear}
use Rattle.fx_area.specs.Erode.{radius_params, radius, square_taps, radius_shape, erode}

pub radius_few : (label : List ℕ) (context : Context) (v : Values) → IsLawfulIn (radius_shape label) context v
    → radius v ≤ 32
radius_few label context v lawful =
    let between = number_between radius_params v 0 (int_def [] (pos 0) (pos 32) (pos 1)) lawful.numbers (omega arith) in
    natural_few (number v 0) 32 between.above between.below

-- what stands at a place so near is in the square
pub in_square : {X : Type 0} (at : ℤ → ℤ → X) (h v : ℕ) (x y i j : ℤ) → (x -ℤ pos h) ≤ℤ i → i ≤ℤ (x +ℤ pos h)
    → (y -ℤ pos v) ≤ℤ j → j ≤ℤ (y +ℤ pos v) → Contains (square at h v x y) (at i j)
in_square at h v x y i j left right bottom top =
    Contains-flat_map (column at v y) (around x h) i (at i j)
    (Contains-run (x -ℤ pos h) (2 * h + 1) i left (omega (arith, ints)))
    (Contains-map (λ row. at i row) (around y v) j
    (Contains-run (y -ℤ pos v) (2 * v + 1) j bottom (omega (arith, ints))))

-- ---- what both keep

pub extreme_pixel : (e : Extreme) (v : Values) (depth : Depth) (c : Components) (value : TapPixels) (x y : ℤ)
    → ((t : Tap) → IsOfDepth depth (value t))
    → IsOfDepth depth (extreme_of e c (greatest depth) (map value (square_taps v x y)))
    × (components_of (extreme_of e c (greatest depth) (map value (square_taps v x y))) ≡ c)
extreme_pixel e v depth c value x y of_depth =
    let taps = square_taps v x y in
    extreme_is_pixel e depth c (map value taps)
    (All-map (IsOfDepth depth) value taps
    (All-square (λ t. IsOfDepth depth (value t)) (tap 0 v.frame) (radius v) (radius v) x y
    (λ i j a b l m. of_depth (tap 0 v.frame i j))))

-- with a radius of 0
extreme_here : (e : Extreme) (frame : ℤ) (r : ℕ) (depth : Depth) (c : Components) (value : TapPixels) (x y : ℤ) → r ≡ 0
    → IsOfDepth depth (value (tap 0 frame x y)) → components_of (value (tap 0 frame x y)) ≡ c
    → (extreme_of e c (greatest depth) (map value (square (tap 0 frame) r r x y)) ≡ value (tap 0 frame x y))
    × Contains (square (tap 0 frame) r r x y) (tap 0 frame x y)
extreme_here e frame r depth c value x y none deep of =
    let t = tap 0 frame x y in
    let P : List Tap → Type 0 =
    λ taps. (extreme_of e c (greatest depth) (map value taps) ≡ value t) × Contains taps t in
    let one : P (t ∷ []) =
    let still = extreme_one e depth (value t) deep in
    (subst (λ k. extreme_of e k (greatest depth) (value t ∷ []) ≡ value t) of still, (0, omega arith, refl)) in
    rw none (subst P (sym (square_one (tap 0 frame) x y)) one)

is_zero : (n : ℕ) → (n == 0) ≡ true → n ≡ 0
is_zero n h = grind (arith, nat_tests)

-- where the radius is 0 it is the source
pub record IsStill (e : Extreme) (v : Values) (depth : Depth) (c : Components) (value : TapPixels) (clip : ℕ)
    (frame : ℤ) : Type 0 where
  pub clip_is : clip ≡ 0
  pub frame_is : frame ≡ v.frame
  pub pixels : (x y : ℤ) → extreme_of e c (greatest depth) (map value (square_taps v x y)) ≡ value (tap 0 v.frame x y)
  pub read : (x y : ℤ) → Contains (square_taps v x y) (tap 0 v.frame x y)

pub extreme_same : (label : List ℕ) (e : Extreme) (context : Context) (v : Values) (clip : ℕ) (frame : ℤ)
    (depth : Depth) (c : Components) (value : TapPixels) → IsGiven (radius_shape label) context v depth c value
    → (if radius v == 0 then Same 0 v.frame else No) ≡ Same clip frame → IsStill e v depth c value clip frame
extreme_same label e context v clip frame depth c value given same =
    let is = same_source (radius v == 0) v.frame clip frame same in
    let none = is_zero (radius v) is.0 in
    let here = λ (x y : ℤ).
    let t = tap 0 v.frame x y in
    extreme_here e v.frame (radius v) depth c value x y none (given.depth_is t) (given.components_are t) in
    record { clip_is = is.1; frame_is = is.2; pixels = λ x y. (here x y).0; read = λ x y. (here x y).1 }

-- ---- erode

erode_clear : (context : Context) (v : Values) (regions : List Bounds) (depth : Depth) (c : Components)
    (value : TapPixels) (x y : ℤ) → IsZeroOutside (radius_shape (codes "erode")) context c regions value
    → (Holds (region_of regions 0) x y → ⊥) → mixed erode v depth c value x y ≡ clear c
erode_clear context v regions depth c value x y zeros outside =
    let own = zeros (tap 0 v.frame x y) outside in
    let r = radius v in
    let t = tap 0 v.frame x y in
    let place = in_square (tap 0 v.frame) r r x y x y (omega (arith, ints)) (omega (arith, ints))
    (omega (arith, ints)) (omega (arith, ints)) in
    least_clear c (greatest depth) (map value (square_taps v x y))
    (subst (Contains (map value (square_taps v x y))) own (Contains-map value (square_taps v x y) t place))

erode_same : (context : Context) (v : Values) (window : Bounds) (clip : ℕ) (frame : ℤ) (depth : Depth)
    (c : Components) (value : TapPixels) → IsGiven (radius_shape (codes "erode")) context v depth c value
    → erode.same v window ≡ Same clip frame → IsSameAs erode context v depth c value window clip frame
erode_same context v window clip frame depth c value given same =
    let still = extreme_same (codes "erode") Least context v clip frame depth c value given same in
    rw (still.clip_is, still.frame_is)
    (record {
      connected = source_connected v.connected given.lawful.connected;
      no_mask = refl;
      pixels = λ x y inside. still.pixels x y;
      read = λ x y inside. still.read x y;
    })

few_radius : (n : ℕ) → n ≤ 32 → n ≤ 64
few_radius n few = omega arith

pub erode_laws : Laws erode
erode_laws =
    record {
      shape = shape_is (radius_shape (codes "erode")) refl;
      interest_holds_taps = λ context v r x y lawful inside.
          square_covered v r (radius v) (radius v) x y (source_flag v.connected lawful.connected) inside;
      zero_outside_region = λ context v regions depth c value x y given are zeros outside.
          erode_clear context v regions depth c value x y zeros outside;
      identity_is_tap = erode_same;
      frames_near = λ context v clip lawful. default_spans_near v clip;
      region_near = λ context v regions n lawful are up_to. region_near n 0 v.project regions up_to;
      interest_near = λ context v r clip n lawful rect up_to.
          let few = few_radius (radius v) (radius_few (codes "erode") context v lawful) in
          grown_near n r (radius v) (radius v) few few (up_to 1 v.project (omega arith));
      region_is_rect = λ context v regions lawful are. region_is_rect 0 v regions are;
      interest_is_rect = λ context v r clip lawful rect. grown_is_rect r (radius v) (radius v);
      pixel = λ context v depth c value x y given. extreme_pixel Least v depth c value x y given.depth_is;
      whole_within_project = λ context v regions whole lawful are. absurd cc;
    }
