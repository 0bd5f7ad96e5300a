-- What every effect keeps, of mirror.
use Rattle.std.specs.Prelude.{◌≡◌, ℕ, ◌+◌, ℤ, pos, ◌≤ℤ◌, ◌-ℤ◌, Bool, true, false, List, [], ◌∷◌, length, All, refl}
use Rattle.std.proofs.Common.{arith}
use Rattle.std.proofs.lemmas.Int.{ints}
use Rattle.std.proofs.lemmas.List.Elements.{All-nil, All-cons}
use Rattle.fx_base.specs.Bounds.{Bounds, IsRect}
use Rattle.fx_base.specs.Rect.{Holds, IsUpTo, IsStep}
use Rattle.fx_base.proofs.RectLemmas.{IsInside, IsInside-from_holds, Holds-rect_of, rect_of-cases}
use Rattle.fx_base.proofs.RectLaws.{IsRect-rect_of, IsUpTo-none}
use Rattle.fx_props.specs.Entries.{region_of}
use Rattle.fx_effect.specs.Tap.{Tap, tap}
use Rattle.fx_effect.specs.Shape.{IsLawfulIn, IsProject}
use Rattle.fx_effect.specs.Default.{default_spans}
use Rattle.fx_effect.specs.DefaultLaws.{default_spans_near, covered_here}
use Rattle.fx_effect.specs.Laws.{Laws, IsCovered}
use Rattle.fx_effect.specs.ShapeTests.{shape_is}
use Rattle.fx_effect.specs.declared.action.Context.{Context}
use Rattle.fx_effect.specs.declared.values.Values.{Values}
use Rattle.fx_effect.specs.SourceLaws.{source_flag}
use Rattle.fx_move.specs.Mirror.{turns_columns, opposite, mirror_x, mirror_y, mirrored, mirror_shape, mirror}

-- what a place of a rectangle reads lies in the mirrored one
pub in_mirrored : (v : Values) (r : Bounds) (x y : ℤ) → Holds r x y → Holds (mirrored v r) (mirror_x v x) (mirror_y v y)
in_mirrored v r x y inside = go (turns_columns v) refl
  where
    p : IsInside r x y
    p = IsInside-from_holds r x y inside

    go : (b : Bool) → turns_columns v ≡ b → Holds (mirrored v r) (mirror_x v x) (mirror_y v y)
    go true is =
        let l = p.left in let m = p.right in let a = p.bottom in let t = p.top in
        rw is (Holds-rect_of (v.project.x2 -ℤ r.x2) r.y1 (v.project.x2 -ℤ r.x1) r.y2 (opposite v.project.x2 x) y
        (record { left = omega (arith, ints); right = omega (arith, ints); bottom = a; top = t }))
    go false is =
        let l = p.left in let m = p.right in let a = p.bottom in let t = p.top in
        rw is (Holds-rect_of r.x1 (v.project.y2 -ℤ r.y2) r.x2 (v.project.y2 -ℤ r.y1) x (opposite v.project.y2 y)
        (record { left = l; right = m; bottom = omega (arith, ints); top = omega (arith, ints) }))

opposite_twice : (n x : ℤ) → opposite n (opposite n x) ≡ x
opposite_twice n x = omega (arith, ints)

-- a place whose pixel is read lies in the mirrored rectangle
from_mirrored : (v : Values) (r : Bounds) (x y : ℤ) → Holds r (mirror_x v x) (mirror_y v y) → Holds (mirrored v r) x y
from_mirrored v r x y inside = go (turns_columns v) refl (in_mirrored v r (mirror_x v x) (mirror_y v y) inside)
  where
    go : (b : Bool) → turns_columns v ≡ b
        → Holds (mirrored v r) (mirror_x v (mirror_x v x)) (mirror_y v (mirror_y v y)) → Holds (mirrored v r) x y
    go true is held = rw is (rw (is, opposite_twice v.project.x2 x) at held)
    go false is held = rw is (rw (is, opposite_twice v.project.y2 y) at held)

-- ---- its answers

mirrored_is_rect : (v : Values) (r : Bounds) → IsRect (mirrored v r)
mirrored_is_rect v r = go (turns_columns v) refl
  where
    go : (b : Bool) → turns_columns v ≡ b → IsRect (mirrored v r)
    go true is = rw is (IsRect-rect_of (v.project.x2 -ℤ r.x2) r.y1 (v.project.x2 -ℤ r.x1) r.y2)
    go false is = rw is (IsRect-rect_of r.x1 (v.project.y2 -ℤ r.y2) r.x2 (v.project.y2 -ℤ r.y1))

-- a side of the project is at most 8,192
side_near : (n : ℕ) (side x : ℤ) → pos 1 ≤ℤ side → side ≤ℤ pos 8192 → IsStep n x → IsStep (n + 32768) (side -ℤ x)
side_near n side x some few near =
    let low = near.0 in let high = near.1 in (omega (arith, ints), omega (arith, ints))

step_more : (n : ℕ) (x : ℤ) → IsStep n x → IsStep (n + 32768) x
step_more n x near = let low = near.0 in let high = near.1 in (omega (arith, ints), omega (arith, ints))

mirrored_near : (n : ℕ) (v : Values) (r : Bounds) → IsProject v.project → IsUpTo n r → IsUpTo (n + 32768) (mirrored v r)
mirrored_near n v r project near = go (turns_columns v) refl
  where
    wide : (x : ℤ) → IsStep n x → IsStep (n + 32768) (v.project.x2 -ℤ x)
    wide x step = side_near n v.project.x2 x project.wide.0 project.wide.1 step

    high : (y : ℤ) → IsStep n y → IsStep (n + 32768) (v.project.y2 -ℤ y)
    high y step = side_near n v.project.y2 y project.high.0 project.high.1 step

    go : (b : Bool) → turns_columns v ≡ b → IsUpTo (n + 32768) (mirrored v r)
    go true is =
        rw is (rect_of-cases (IsUpTo (n + 32768)) (v.project.x2 -ℤ r.x2) r.y1 (v.project.x2 -ℤ r.x1) r.y2
        (IsUpTo-none (n + 32768))
        (λ a b. record {
          left = wide r.x2 near.right;
          bottom = step_more n r.y1 near.bottom;
          right = wide r.x1 near.left;
          top = step_more n r.y2 near.top;
        }))
    go false is =
        rw is (rect_of-cases (IsUpTo (n + 32768)) r.x1 (v.project.y2 -ℤ r.y2) r.x2 (v.project.y2 -ℤ r.y1)
        (IsUpTo-none (n + 32768))
        (λ a b. record {
          left = step_more n r.x1 near.left;
          bottom = high r.y2 near.top;
          right = step_more n r.x2 near.right;
          top = high r.y1 near.bottom;
        }))

region_up_to : (n : ℕ) (p : Bounds) (regions : List Bounds) → All (IsUpTo n) (p ∷ regions)
    → IsUpTo n (region_of regions 0)
region_up_to n p [] up_to = IsUpTo-none n
region_up_to n p (r ∷ regions) up_to = up_to 1 p (omega arith)

mirror_covers : (context : Context) (v : Values) (r : Bounds) (x y : ℤ) → IsLawfulIn mirror_shape context v
    → Holds r x y
    → All (IsCovered (length v.connected) (default_spans v) (λ clip. mirrored v r))
    (tap 0 v.frame (mirror_x v x) (mirror_y v y) ∷ [])
mirror_covers context v r x y lawful inside =
    let P : Tap → Type 0 = IsCovered (length v.connected) (default_spans v) (λ clip. mirrored v r) in
    All-cons P (tap 0 v.frame (mirror_x v x) (mirror_y v y)) []
    (covered_here (length v.connected) 0 v (mirrored v r) (mirror_x v x) (mirror_y v y)
    (source_flag v.connected lawful.connected) (in_mirrored v r x y inside))
    (All-nil P)

pub mirror_laws : Laws mirror
mirror_laws =
    record {
      shape = shape_is mirror_shape refl;
      interest_holds_taps = mirror_covers;
      zero_outside_region = λ context v regions depth c value x y given are zeros outside.
          zeros (tap 0 v.frame (mirror_x v x) (mirror_y v y))
          (λ held. outside (from_mirrored v (region_of regions 0) x y held));
      identity_is_tap = λ context v window clip frame depth c value given same. absurd cc;
      frames_near = λ context v clip lawful. default_spans_near v clip;
      region_near = λ context v regions n lawful are up_to.
          mirrored_near n v (region_of regions 0) lawful.project (region_up_to n v.project regions up_to);
      interest_near = λ context v r clip n lawful rect up_to.
          mirrored_near n v r lawful.project (up_to 1 v.project (omega arith));
      region_is_rect = λ context v regions lawful are. mirrored_is_rect v (region_of regions 0);
      interest_is_rect = λ context v r clip lawful rect. mirrored_is_rect v r;
      pixel = λ context v depth c value x y given.
          let t = tap 0 v.frame (mirror_x v x) (mirror_y v y) in (given.depth_is t, given.components_are t);
      whole_within_project = λ context v regions whole lawful are. absurd cc;
    }
