use Rattle.std.proofs.Common.{sym, subst, arith}
use Rattle.std.proofs.lemmas.Int.{to_z-of_z}
use Rattle.fx_base.specs.Rect.{Holds, floor, ceiling}
use Rattle.fx_base.proofs.RectLemmas.{IsInside-rect_of, Holds-rect_of}
use Rattle.fx_base.proofs.CoverLemmas.{floor_low, low_floor, ceiling_high, high_ceiling}
use Rattle.fx_base.proofs.rect.Rect.cover.Goals as goal

pub returns-clause-bounds : goal.returns-clause-bounds
returns-clause-bounds c = grind (arith, to_z-of_z)

pub returns-clause-places : goal.returns-clause-places
returns-clause-places c x y =
    let a = c.args in
    let is = returns-clause-bounds c in (
      λ held.
          let inside = IsInside-rect_of (floor a.x1) (floor a.y1) (ceiling a.x2) (ceiling a.y2) x y (subst (λ b. Holds b x y) is held) in
          (floor_low a.x1 x inside.left, ceiling_high a.x2 x inside.right, floor_low a.y1 y inside.bottom, ceiling_high a.y2 y inside.top),
      λ meets. subst (λ b. Holds b x y) (sym is) (Holds-rect_of (floor a.x1) (floor a.y1) (ceiling a.x2) (ceiling a.y2) x y (record {
        left = low_floor a.x1 x meets.0;
        right = high_ceiling a.x2 x meets.1;
        bottom = low_floor a.y1 y meets.2;
        top = high_ceiling a.y2 y meets.3;
      })),
    )
