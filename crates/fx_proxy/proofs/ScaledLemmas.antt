-- A scaled graph is such as a graph keeps by its type.
use Rattle.std.proofs.Common.{◌≡◌, ◌≤◌, ◌<◌, ℕ, zero, suc, ◌+◌, ◌-◌, ℤ, pos, negsuc, ◌≤ℤ◌, Bool, List, [], ◌∷◌, ◌++◌, map, take, drop, set, length, get_or, All, Option, Some, None, slice_get, refl, sym, ap, subst, ◌∙◌, arith, append_assoc}
use Rattle.std.specs.Int.{int_gap}
use Rattle.std.specs.List.{AllByRecursion, AllZip}
use Rattle.std.specs.Prelude.{IfSome, option_map}
use Rattle.std.proofs.lemmas.Int.{ints}
use Rattle.std.proofs.lemmas.List.{drop_more, take_more_set, drop-set-lt, length-map}
use Rattle.std.proofs.lemmas.List.Elements.{All-nil, All-cons, All-head, All-tail}
use Rattle.std.proofs.lemmas.Nat.{div_below, le-div}
use Rattle.std.proofs.lemmas.Option.{none-some, same_Some, slice_get-get_or, slice_get-map}
use Rattle.fx_base.specs.Bounds.{Bounds}
use Rattle.fx_base.specs.Rect.{IsNear}
use Rattle.fx_base.specs.declared.limits.TheConstants.{MOST_SIDE}
use Rattle.fx_effect.specs.Meaning.{Meaning}
use Rattle.fx_effect.specs.Shape.{IsProject}
use Rattle.fx_graph.specs.Kept.{AreNodes, IsDoing, IsOf}
use Rattle.fx_graph.specs.Nodes.{Form, form_at, has_alpha, has_depth, inputs_of, node_at}
use Rattle.fx_graph.specs.Shown.{Does, Effect, Shown, Source}
use Rattle.fx_params.specs.declared.def.ParamDef.{ParamDef}
use Rattle.fx_params.specs.Parameter.{IsSound, Parameter}
use Rattle.fx_pixel.specs.declared.Depth.TheVariants as depths
use Rattle.fx_prefs.specs.Prefs.{Input, negotiated}
use Rattle.fx_proxy.specs.Lengths.{HasLength, scaled_param}
use Rattle.fx_proxy.specs.Reduced.{IsWhole, over, reduced_rect}
use Rattle.fx_proxy.specs.Scaled.{AreLengths, DoesLengths, HasLengths, scaled_does, scaled_node, scaled_params}
use Rattle.fx_proxy.proofs.LengthLemmas.{def_stays, param_whole, sound_stays}

-- ---- parameters

defs_stay : (defs : List ParamDef) (effect place q : ℕ) (params : List Parameter) → AllZip IsOf defs params
    → AllZip IsOf defs (scaled_params effect place q params)
defs_stay [] effect place q [] h = h
defs_stay [] effect place q (p ∷ ps) h = absurd h
defs_stay (d ∷ defs) effect place q [] h = h
defs_stay (d ∷ defs) effect place q (p ∷ ps) h =
    (def_stays effect place q p ∙ h.0, defs_stay defs effect (place + 1) q ps h.1)

all_sound : (effect place q : ℕ) (params : List Parameter) → 0 < q → HasLengths effect place params → All IsSound params
    → All IsSound (scaled_params effect place q params)
all_sound effect place q [] some has h = All-nil IsSound
all_sound effect place q (p ∷ ps) some has h =
    All-cons IsSound (scaled_param effect place q p) (scaled_params effect (place + 1) q ps)
    (sound_stays effect place q p has.0 some (All-head IsSound p ps h))
    (all_sound effect (place + 1) q ps some has.1 (All-tail IsSound p ps h))

pub params_whole : (effect place : ℕ) (params : List Parameter) → HasLengths effect place params → All IsSound params
    → scaled_params effect place 1 params ≡ params
params_whole effect place [] has h = refl
params_whole effect place (p ∷ ps) has h =
    ap (λ (x : Parameter). x ∷ scaled_params effect (place + 1) 1 ps) (param_whole effect place p has.0 (All-head IsSound p ps h))
    ∙ ap (λ (l : List Parameter). p ∷ l) (params_whole effect (place + 1) ps has.1 (All-tail IsSound p ps h))

-- a length at its place
pub length_there : (effect first i : ℕ) (params : List Parameter) (p : Parameter) → HasLengths effect first params
    → slice_get params i ≡ Some p → HasLength effect (first + i) p
length_there effect first i [] p has there = absurd (none-some p there)
length_there effect first zero (x ∷ ps) p has there =
    let here : first ≡ first + zero = omega arith in
    subst (λ (n : ℕ). HasLength effect n p) here (subst (HasLength effect first) (same_Some x p there) has.0)
length_there effect first (suc i) (x ∷ ps) p has there =
    let next : first + 1 + i ≡ first + suc i = omega arith in
    subst (λ (n : ℕ). HasLength effect n p) next (length_there effect (first + 1) i ps p has.1 there)

-- ---- nodes

module _ {E : Type 0} (meaning : E → Meaning) (number : E → ℕ) (q : ℕ) where
  get_mapped : (f : Shown E → Shown E) (nodes : List (Shown E)) (k : ℕ) (node : Shown E) → slice_get (map f nodes) k ≡ Some node
      → (old : Shown E) × (slice_get nodes k ≡ Some old) × (node ≡ f old)
  get_mapped f [] k node h = absurd (none-some node h)
  get_mapped f (n ∷ nodes) zero node h = (n, refl, sym (same_Some (f n) node h))
  get_mapped f (n ∷ nodes) (suc k) node h = get_mapped f nodes k node h

  take_mapped : (f : Shown E → Shown E) (nodes : List (Shown E)) (k : ℕ) → take k (map f nodes) ≡ map f (take k nodes)
  take_mapped f nodes zero = refl
  take_mapped f [] (suc k) = refl
  take_mapped f (n ∷ nodes) (suc k) = ap (λ (l : List (Shown E)). f n ∷ l) (take_mapped f nodes k)

  form_stays : (before : List (Shown E)) (clip : Option ℕ) (mask : Bool)
      → form_at (node_at (map (scaled_node number q) before) clip) mask ≡ form_at (node_at before clip) mask
  form_stays before None mask = refl
  form_stays before (Some k) mask = by_place before k
    where
      by_place : (nodes : List (Shown E)) (k : ℕ)
          → form_at (slice_get (map (scaled_node number q) nodes) k) mask ≡ form_at (slice_get nodes k) mask
      by_place [] k = refl
      by_place (n ∷ nodes) zero = refl
      by_place (n ∷ nodes) (suc k) = by_place nodes k

  inputs_stay : (before : List (Shown E)) (clips : List (Option ℕ)) (masks : List Bool)
      → inputs_of (map (scaled_node number q) before) clips masks ≡ inputs_of before clips masks
  inputs_stay before [] masks = refl
  inputs_stay before (c ∷ clips) [] = refl
  inputs_stay before (c ∷ clips) (m ∷ masks) =
      ap (λ (l : List Input). l ++ inputs_of (map (scaled_node number q) before) clips masks) (form_stays before c m)
      ∙ ap (λ (l : List Input). form_at (node_at before c) m ++ l) (inputs_stay before clips masks)

  doing_stays : (project form : Form) (before : List (Shown E)) (does : Does E) → 0 < q → DoesLengths number does
      → IsDoing meaning project before form does
      → IsDoing meaning project (map (scaled_node number q) before) form (scaled_does number q does)
  doing_stays project form before (Source pattern first last hold) some has h = h
  doing_stays project form before (Effect e c clips names optional masks params) some has h =
      let u = h.0 in
      let s = (meaning e).shape in (
        record {
          supported = u.supported;
          names_are = u.names_are;
          optional_are = u.optional_are;
          masks_are = u.masks_are;
          earlier = subst (λ (n : ℕ). All (λ clip. IfSome clip (λ m. m < n)) clips) (sym (length-map before (scaled_node number q))) u.earlier;
          connected = u.connected;
          defs = defs_stay (s.params c) (number e) 0 q params u.defs;
          sound = all_sound (number e) 0 q params some has u.sound;
        },
        h.1 ∙ sym (ap (λ (is : List Input). negotiated is (has_depth s depths.Byte) (has_depth s depths.Short) (has_alpha s) project)
            (inputs_stay before clips masks)),
      )

  pub nodes_stay : (project : Form) (nodes : List (Shown E)) → 0 < q → AreLengths number nodes → AreNodes meaning project nodes
      → AreNodes meaning project (map (scaled_node number q) nodes)
  nodes_stay project nodes some has h k node there =
      let old = get_mapped (scaled_node number q) nodes k node there in
      subst (λ (before : List (Shown E)). IsDoing meaning project before (node.depth, node.components) node.does) (sym (take_mapped (scaled_node number q) nodes k))
      (subst (λ (n : Shown E). IsDoing meaning project (map (scaled_node number q) (take k nodes)) (n.depth, n.components) n.does) (sym old.2)
      (doing_stays project (old.0.depth, old.0.components) (take k nodes) old.0.does some (has k old.0 old.1) (h k old.0 old.1)))

-- ---- one parameter after the other

pub scaled_more : (effect q i : ℕ) (params now : List Parameter) (p : Parameter) → i < length now
    → take i now ++ scaled_params effect i q (drop i now) ≡ params → p ≡ get_or now i p
    → take (i + 1) (set now i (scaled_param effect i q p)) ++ scaled_params effect (i + 1) q (drop (i + 1) (set now i (scaled_param effect i q p))) ≡ params
scaled_more effect q i params now p low inv is =
    let new = scaled_param effect i q p in
    let next = drop (i + 1) now in
    let first = ap (λ (l : List Parameter). l ++ scaled_params effect (i + 1) q (drop (i + 1) (set now i new))) (take_more_set now i new low) in
    let second = ap (λ (l : List Parameter). (take i now ++ new ∷ []) ++ scaled_params effect (i + 1) q l) (drop-set-lt (i + 1) now i new (omega arith)) in
    let third = append_assoc (take i now) (new ∷ []) (scaled_params effect (i + 1) q next) in
    let whole : p ∷ next ≡ drop i now = ap (λ (x : Parameter). x ∷ next) is ∙ sym (drop_more now i p low) in
    first ∙ second ∙ third ∙ ap (λ (l : List Parameter). take i now ++ scaled_params effect i q l) whole ∙ inv

-- one item after the other: the first ones have changed, and the others are as they were
pub more_items : {X Y : Type 0} (f : Y → Y) (g : X → Y) (init now : List X) (i : ℕ) (new old : X) → i < length init
    → map g now ≡ map f (map g (take i init)) ++ map g (drop i init) → g new ≡ f (g old) → old ≡ get_or now i old
    → map g (set now i new) ≡ map f (map g (take (i + 1) init)) ++ map g (drop (i + 1) init)
more_items f g [] now i new old low inv is there = absurd (omega (arith, low))
more_items f g (m ∷ init) [] zero new old low inv is there = absurd cc
more_items f g (m ∷ init) [] (suc i) new old low inv is there = absurd cc
more_items f g (m ∷ init) (n ∷ now) zero new old low inv is there =
    let first : g n ≡ g m = cc in
    let rest : map g now ≡ map g init = cc in
    ap (λ y. y ∷ map g now) (is ∙ ap (λ x. f (g x)) there ∙ ap f first) ∙ ap (λ l. f (g m) ∷ l) rest
more_items f g (m ∷ init) (n ∷ now) (suc i) new old low inv is there =
    let first : g n ≡ f (g m) = cc in
    let rest : map g now ≡ map f (map g (take i init)) ++ map g (drop i init) = cc in
    let next : suc i + 1 ≡ suc (i + 1) = omega arith in
    subst (λ k. g n ∷ map g (set now i new) ≡ map f (map g (take k (m ∷ init))) ++ map g (drop k (m ∷ init))) (sym next)
    (ap (λ y. y ∷ map g (set now i new)) first ∙ ap (λ l. f (g m) ∷ l) (more_items f g init now i new old (omega (arith, low)) rest is there))

-- the item at the place that has come is as it was
pub item_there : {X Y : Type 0} (f : Y → Y) (g : X → Y) (init now : List X) (i : ℕ) (d : X) → i < length init
    → map g now ≡ map f (map g (take i init)) ++ map g (drop i init) → g (get_or now i d) ≡ g (get_or init i d)
item_there f g [] now i d low inv = absurd (omega (arith, low))
item_there f g (m ∷ init) [] zero d low inv = absurd cc
item_there f g (m ∷ init) [] (suc i) d low inv = absurd cc
item_there f g (m ∷ init) (n ∷ now) zero d low inv = cc
item_there f g (m ∷ init) (n ∷ now) (suc i) d low inv =
    let rest : map g now ≡ map f (map g (take i init)) ++ map g (drop i init) = cc in
    item_there f g init now i d (omega (arith, low)) rest

-- what holds of each item still holds of that one
pub item_all : {X Y : Type 0} (P : Y → Type 0) (f : Y → Y) (g : X → Y) (init now : List X) (i : ℕ) (d : X) → i < length init
    → map g now ≡ map f (map g (take i init)) ++ map g (drop i init) → AllByRecursion P (map g init) → P (g (get_or now i d))
item_all {X = X} P f g init now i d low inv all = subst P (sym (item_there f g init now i d low inv)) (at init i low all)
  where
    at : (xs : List X) (i : ℕ) → i < length xs → AllByRecursion P (map g xs) → P (g (get_or xs i d))
    at [] i low all = absurd (omega (arith, low))
    at (x ∷ xs) zero low all = all.0
    at (x ∷ xs) (suc i) low all = at xs i (omega (arith, low)) all.1

pub item_has : {E X : Type 0} (number : E → ℕ) (f : Shown E → Shown E) (g : X → Shown E) (init now : List X) (i : ℕ) (d : X)
    → i < length init → map g now ≡ map f (map g (take i init)) ++ map g (drop i init) → AreLengths number (map g init)
    → DoesLengths number (g (get_or now i d)).does
item_has {E = E} number f g init now i d low inv has =
    subst (λ (n : Shown E). DoesLengths number n.does) (sym (item_there f g init now i d low inv))
    (has i (g (get_or init i d)) (slice_get-map g init i ∙ ap (option_map g) (slice_get-get_or init i d low)))

-- ---- the extent

pub side_stays : (q : ℕ) (x1 x2 : ℤ) → 1 ≤ q → x1 ≡ pos 0 → (pos 1 ≤ℤ x2) × (x2 ≤ℤ pos MOST_SIDE)
    → (pos 1 ≤ℤ pos (over q (int_gap x1 x2))) × (pos (over q (int_gap x1 x2)) ≤ℤ pos MOST_SIDE)
side_stays q x1 x2 some from h = subst (λ (x : ℤ). (pos 1 ≤ℤ pos (over q (int_gap x x2))) × (pos (over q (int_gap x x2)) ≤ℤ pos MOST_SIDE)) (sym from) (on x2 h)
  where
    on : (x2 : ℤ) → (pos 1 ≤ℤ x2) × (x2 ≤ℤ pos MOST_SIDE)
        → (pos 1 ≤ℤ pos (over q (int_gap (pos 0) x2))) × (pos (over q (int_gap (pos 0) x2)) ≤ℤ pos MOST_SIDE)
    on (pos n) h =
        let low = h.0 in let high = h.1 in
        let is : int_gap (pos 0) (pos n) ≡ n = omega arith in
        let least = le-div 1 (n + q - 1) q (omega (arith, some)) (omega (arith, ints, low, some)) in
        let most = div_below (n + q - 1) q 8193 (omega (arith, some)) (omega (arith, ints, high, some)) in
        subst (λ (m : ℕ). (pos 1 ≤ℤ pos (over q m)) × (pos (over q m) ≤ℤ pos MOST_SIDE)) (sym is)
        (omega (arith, ints, least), omega (arith, ints, most))
    on (negsuc n) h = let low = h.0 in absurd (omega (arith, ints, low))

pub project_stays : (q : ℕ) (r : Bounds) → 1 ≤ q → IsProject r → IsProject (reduced_rect q r)
project_stays q r some h =
    record {
      left = refl;
      bottom = refl;
      wide = side_stays q r.x1 r.x2 some h.left h.wide;
      high = side_stays q r.y1 r.y2 some h.bottom h.high;
    }

pub side_some : (a b : ℤ) → a ≡ pos 0 → pos 1 ≤ℤ b → 1 ≤ int_gap a b
side_some a b from low = subst (λ (x : ℤ). 1 ≤ int_gap x b) (sym from) (on b low)
  where
    on : (b : ℤ) → pos 1 ≤ℤ b → 1 ≤ int_gap (pos 0) b
    on (pos n) low = omega (arith, ints, low)
    on (negsuc n) low = absurd (omega (arith, ints, low))

pub project_is_whole : (r : Bounds) → IsProject r → IsWhole r
project_is_whole r h =
    record {
      left = h.left;
      bottom = h.bottom;
      wide = side_some r.x1 r.x2 h.left h.wide.0;
      high = side_some r.y1 r.y2 h.bottom h.high.0;
    }

pub project_near : (r : Bounds) → IsProject r → IsNear r
project_near r h =
    record {
      left = rw h.left (omega (arith, ints));
      right = near r.x2 h.wide.1;
      bottom = rw h.bottom (omega (arith, ints));
      top = near r.y2 h.high.1;
    }
  where
    near : (x : ℤ) → x ≤ℤ pos MOST_SIDE → x ≤ℤ pos 1073741824
    near x low = omega (arith, ints, low)
