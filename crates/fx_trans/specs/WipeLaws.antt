-- What every effect keeps, of wipe.
use Rattle.std.specs.Prelude.{◌≡◌, ◌≤◌, ◌<◌, ◌==◌, ℕ, ◌+◌, ◌*◌, ◌/◌, ℤ, pos, ◌≤ℤ◌, ◌<ℤ◌, Bool, true, false, List, [], ◌∷◌, codes, if◌then◌else◌, refl}
use Rattle.std.specs.Int.Signed.{le_z, lt_z}
use Rattle.std.specs.List.{Contains}
use Rattle.std.proofs.Common.{inl, inr, ◌⊎◌, sym, subst, arith, ◌∙◌}
use Rattle.std.proofs.lemmas.Int.{ints}
use Rattle.fx_base.specs.Bounds.{Bounds}
use Rattle.fx_base.specs.Rect.{Holds}
use Rattle.fx_base.proofs.RectLemmas.{IsInside, IsInside-from_holds}
use Rattle.fx_pixel.specs.declared.Depth.{Depth}
use Rattle.fx_pixel.specs.declared.Components.{Components}
use Rattle.fx_pixel.specs.declared.Pixel.{Pixel}
use Rattle.fx_pixel.specs.Pixel.{greatest, zero as clear, IsOfDepth, components_of}
use Rattle.fx_effect.specs.Shape.{IsLawfulIn}
use Rattle.fx_effect.specs.ShapeTests.{shape_is}
use Rattle.fx_effect.specs.Laws.{Laws}
use Rattle.fx_effect.specs.DefaultLaws.{default_spans_near}
use Rattle.fx_effect.specs.Local.{Read, IsSameRead, local_laws}
use Rattle.fx_effect.specs.declared.action.Context.{Context}
use Rattle.fx_effect.specs.declared.action.Identity.TheVariants.{Same, No}
use Rattle.fx_effect.specs.declared.values.Values.{Values}
use Rattle.fx_trans.specs.Transitions.{level}
use Rattle.fx_effect.specs.PairLaws.{both_reads, both_near, both_rect, both_hold}
use Rattle.fx_trans.specs.TransitionsLaws.{IsEnd, both_there, from_connected, to_connected, end_of}
use Rattle.fx_trans.specs.Wipe.{edge, shows_to, wiped, side_of, wipe_shape, wipe}

-- ---- which clip a column shows

either_is : (b : Bool) (depth : Depth) (c : Components) (p q : Pixel) → IsOfDepth depth p → IsOfDepth depth q
    → components_of p ≡ c → components_of q ≡ c
    → IsOfDepth depth (if b then q else p) × (components_of (if b then q else p) ≡ c)
either_is true depth c p q from to first second = (to, second)
either_is false depth c p q from to first second = (from, first)

either_zero : (b : Bool) (c : Components) → (if b then clear c else clear c) ≡ clear c
either_zero true c = refl
either_zero false c = refl

before : (k : ℕ) (e x : ℤ) (p q : Pixel) → k ≡ 0 → wiped k e x p q ≡ p
before k e x p q none = rw none refl

behind : (k : ℕ) (e x : ℤ) (p q : Pixel) → k ≡ 65536 → wiped k e x p q ≡ q
behind k e x p q all = rw all refl

on_left : (k : ℕ) (e x : ℤ) (p q : Pixel) → (k == 0) ≡ false → (k == 65536) ≡ false → x <ℤ e → wiped k e x p q ≡ q
on_left k e x p q some part left = let is : lt_z x e ≡ true = grind (arith, ints) in rw (some, part, is) refl

on_right : (k : ℕ) (e x : ℤ) (p q : Pixel) → (k == 0) ≡ false → (k == 65536) ≡ false → e ≤ℤ x → wiped k e x p q ≡ p
on_right k e x p q some part right = let is : lt_z x e ≡ false = grind (arith, ints) in rw (some, part, is) refl

-- ---- the side of a window

abbrev IsSide : ℤ → ℤ → Bounds → ℕ → ℤ → Type 0
IsSide e t window clip frame =
    ((window.x2 ≤ℤ e) × (clip ≡ 1) × (frame ≡ t)) ⊎ ((e ≤ℤ window.x1) × (clip ≡ 0) × (frame ≡ t))

at_most : (a b : ℤ) → le_z a b ≡ true → a ≤ℤ b
at_most a b h = grind (arith, ints)

side_is : (e t : ℤ) (window : Bounds) (clip : ℕ) (frame : ℤ) → side_of e t window ≡ Same clip frame
    → IsSide e t window clip frame
side_is e t window clip frame = go (le_z window.x2 e) (le_z e window.x1) refl refl
  where
    go : (a b : Bool) → le_z window.x2 e ≡ a → le_z e window.x1 ≡ b
        → (if a then Same 1 t else (if b then Same 0 t else No)) ≡ Same clip frame → IsSide e t window clip frame
    go true b left right is = inl (at_most window.x2 e left, cc, cc)
    go false true left right is = inr (at_most e window.x1 right, cc, cc)
    go false false left right is = absurd cc

same_on_side : (context : Context) (v : Values) (window : Bounds) (clip : ℕ) (frame : ℤ) (depth : Depth)
    (c : Components) → IsLawfulIn wipe_shape context v
    → (level v == 0) ≡ false → (level v == 65536) ≡ false → IsSide (edge v) v.frame window clip frame
    → IsSameRead wipe (both_reads v) context v depth c window clip frame
same_on_side context v window clip frame depth c lawful some part (inl (left, second, now)) =
    rw (second, now) (record {
      connected = to_connected v.connected lawful.connected;
      no_mask = refl;
      read = (1, omega arith, refl);
      pixels = λ value x y shown inside.
          let place = IsInside-from_holds window x y inside in
          on_left (level v) (edge v) x (value (0, v.frame)) (value (1, v.frame)) some part
          (omega (arith, ints, place.right, left));
    })
same_on_side context v window clip frame depth c lawful some part (inr (right, first, now)) =
    rw (first, now) (record {
      connected = from_connected v.connected lawful.connected;
      no_mask = refl;
      read = (0, omega arith, refl);
      pixels = λ value x y shown inside.
          let place = IsInside-from_holds window x y inside in
          on_right (level v) (edge v) x (value (0, v.frame)) (value (1, v.frame)) some part
          (omega (arith, ints, place.left, right));
    })

same_at_end : (context : Context) (v : Values) (window : Bounds) (clip : ℕ) (frame : ℤ) (depth : Depth) (c : Components)
    → IsLawfulIn wipe_shape context v
    → IsEnd (level v) v.frame (side_of (edge v) v.frame window) clip frame
    → IsSameRead wipe (both_reads v) context v depth c window clip frame
same_at_end context v window clip frame depth c lawful (inl (none, first, now)) =
    rw (first, now) (record {
      connected = from_connected v.connected lawful.connected;
      no_mask = refl;
      read = (0, omega arith, refl);
      pixels = λ value x y shown inside. before (level v) (edge v) x (value (0, v.frame)) (value (1, v.frame)) none;
    })
same_at_end context v window clip frame depth c lawful (inr (inl (all, second, now))) =
    rw (second, now) (record {
      connected = to_connected v.connected lawful.connected;
      no_mask = refl;
      read = (1, omega arith, refl);
      pixels = λ value x y shown inside. behind (level v) (edge v) x (value (0, v.frame)) (value (1, v.frame)) all;
    })
same_at_end context v window clip frame depth c lawful (inr (inr (some, part, is))) =
    same_on_side context v window clip frame depth c lawful some part (side_is (edge v) v.frame window clip frame is)

pub wipe_laws : Laws wipe
wipe_laws =
    local_laws wipe both_reads (shape_is wipe_shape refl) (record {
      taps = λ v x y. refl;
      interest = λ v r clip. refl;
      reads_there = both_there (codes "wipe");
      frames_near = λ context v clip lawful. default_spans_near v clip;
      region_near = λ context v regions n lawful are up_to. both_near n v.project regions up_to;
      region_is_rect = λ context v regions lawful are. both_rect v regions are;
      whole = λ context v regions whole lawful are. absurd cc;
      region_holds = λ context v regions r x y lawful are there held. both_hold v regions r x y there held;
      zero_stays = λ context v depth c x y lawful supported. either_zero (shows_to (level v) (edge v) x) c;
      pixel = λ context v depth c value x y lawful supported shown.
          either_is (shows_to (level v) (edge v) x) depth c (value (0, v.frame)) (value (1, v.frame))
          (shown.depth_is (0, v.frame)) (shown.depth_is (1, v.frame)) (shown.components_are (0, v.frame))
          (shown.components_are (1, v.frame));
      same = λ context v window clip frame depth c lawful supported answer. same_at_end context v window clip frame
          depth c lawful (end_of (level v) v.frame (side_of (edge v) v.frame window) clip frame answer);
    })
