-- Laws of rectangles for callers: hulls, grown, moved and met rectangles are rectangles, and how far they reach.
use Rattle.std.specs.Prelude.{◌≡◌, ◌≤◌, ℕ, ◌+◌, ℤ, pos, negsuc, ◌≤ℤ◌, ◌+ℤ◌, true, false, refl}
use Rattle.std.specs.Int.{int_gap, int_min, int_max}
use Rattle.std.proofs.Common.{inl, inr, ⊎_elim, sym, subst, arith, ◌∙◌}
use Rattle.std.proofs.lemmas.Bool.{cases_Bool, and_parts}
use Rattle.std.proofs.lemmas.Int.{ints, clamps}
use Rattle.fx_base.specs.Bounds.{Bounds, IsRect, none}
use Rattle.fx_base.specs.Rect.{IsWithin, IsNear, IsUpTo, IsStep, within, is_empty, rect_of, meet, hull, grown, shifted}
use Rattle.fx_base.proofs.RectLemmas.{IsProper-from_test, IsRect-proper, within-meet, rect_of-cases, hull-first_empty, hull-second_empty, hull-proper, IsProper-hull, grown-empty, grown-proper, IsProper-grown, shifted-empty, shifted-proper, IsProper-shifted, Holds-grown}

-- how far one number lies behind another
pub gap_is : (a b : ℤ) → a ≤ℤ b → a +ℤ pos (int_gap a b) ≡ b
gap_is (pos a) (pos b) h = omega (arith, ints)
gap_is (pos a) (negsuc b) h = omega (arith, ints)
gap_is (negsuc a) (pos b) h = omega (arith, ints)
gap_is (negsuc a) (negsuc b) h = omega (arith, ints)

-- what holds of no pixel, and of the bounds where there are some
by_empty : (P : Bounds → Type 0) (r : Bounds) (f : Bounds → Bounds) (e : (r : Bounds) → is_empty r ≡ true → f r ≡ none) → P none → (is_empty r ≡ false → P (f r)) → P (f r)
by_empty P r f empty nothing some = ⊎_elim (λ test. subst P (sym (empty r test)) nothing) some (cases_Bool (is_empty r))

-- ---- rectangles

pub IsRect-hull : (r s : Bounds) → IsRect r → IsRect s → IsRect (hull r s)
IsRect-hull r s first second =
    ⊎_elim
    (λ empty. subst IsRect (sym (hull-first_empty r s empty)) second)
    (λ some. ⊎_elim
    (λ empty. subst IsRect (sym (hull-second_empty r s some empty)) first)
    (λ both. IsRect-proper (hull r s) (IsProper-hull r s (IsProper-from_test r some) (IsProper-from_test s both)))
    (cases_Bool (is_empty s)))
    (cases_Bool (is_empty r))

pub IsRect-grown : (r : Bounds) (h v : ℤ) → pos 0 ≤ℤ h → pos 0 ≤ℤ v → IsRect (grown r h v)
IsRect-grown r h v h_low v_low =
    by_empty IsRect r (λ r. grown r h v) (λ r. grown-empty r h v) (inl refl)
    (λ some. IsRect-proper (grown r h v) (IsProper-grown r h v (IsProper-from_test r some) h_low v_low))

pub IsRect-shifted : (r : Bounds) (dx dy : ℤ) → IsRect (shifted r dx dy)
IsRect-shifted r dx dy =
    by_empty IsRect r (λ r. shifted r dx dy) (λ r. shifted-empty r dx dy) (inl refl)
    (λ some. IsRect-proper (shifted r dx dy) (IsProper-shifted r dx dy (IsProper-from_test r some)))

pub IsRect-rect_of : (x1 y1 x2 y2 : ℤ) → IsRect (rect_of x1 y1 x2 y2)
IsRect-rect_of x1 y1 x2 y2 = rect_of-cases IsRect x1 y1 x2 y2 (inl refl) (λ wide high. inr (wide, high))

pub IsRect-meet : (r s : Bounds) → IsRect (meet r s)
IsRect-meet r s = IsRect-rect_of (int_max r.x1 s.x1) (int_max r.y1 s.y1) (int_min r.x2 s.x2) (int_min r.y2 s.y2)

-- ---- places

-- the places of both are places of each
pub IsWithin-meet_first : (r s : Bounds) → IsWithin (meet r s) r
IsWithin-meet_first r s x y held = (and_parts (within r x y) (within s x y) (sym (within-meet r s x y) ∙ held)).0

pub IsWithin-meet_second : (r s : Bounds) → IsWithin (meet r s) s
IsWithin-meet_second r s x y held = (and_parts (within r x y) (within s x y) (sym (within-meet r s x y) ∙ held)).1

-- and a rectangle's places are places of what it grows to
pub IsWithin-grown : (r : Bounds) (h v : ℤ) → pos 0 ≤ℤ h → pos 0 ≤ℤ v → IsWithin r (grown r h v)
IsWithin-grown r h v h_low v_low x y held = Holds-grown r h v x y (record {
  column = x;
  row = y;
  held = held;
  left = omega (arith, ints);
  right = omega (arith, ints);
  bottom = omega (arith, ints);
  top = omega (arith, ints);
})

-- ---- how far they reach

pub IsUpTo-none : (n : ℕ) → IsUpTo n none
IsUpTo-none n = record {
  left = (omega (arith, ints), omega (arith, ints));
  bottom = (omega (arith, ints), omega (arith, ints));
  right = (omega (arith, ints), omega (arith, ints));
  top = (omega (arith, ints), omega (arith, ints));
}

pub IsUpTo-more : (n m : ℕ) (r : Bounds) → n ≤ m → IsUpTo n r → IsUpTo m r
IsUpTo-more n m r room up_to =
    let left = up_to.left in
    let bottom = up_to.bottom in
    let right = up_to.right in
    let top = up_to.top in
    record {
      left = (omega (arith, ints), omega (arith, ints));
      bottom = (omega (arith, ints), omega (arith, ints));
      right = (omega (arith, ints), omega (arith, ints));
      top = (omega (arith, ints), omega (arith, ints));
    }

pub IsUpTo-hull : (n : ℕ) (r s : Bounds) → IsUpTo n r → IsUpTo n s → IsUpTo n (hull r s)
IsUpTo-hull n r s first second =
    ⊎_elim
    (λ empty. subst (IsUpTo n) (sym (hull-first_empty r s empty)) second)
    (λ some. ⊎_elim
    (λ empty. subst (IsUpTo n) (sym (hull-second_empty r s some empty)) first)
    (λ both.
    let left = first.left in
    let bottom = first.bottom in
    let right = first.right in
    let top = first.top in
    let left' = second.left in
    let bottom' = second.bottom in
    let right' = second.right in
    let top' = second.top in
    subst (IsUpTo n) (sym (hull-proper r s some both)) (record {
      left = (omega (arith, ints, clamps), omega (arith, ints, clamps));
      bottom = (omega (arith, ints, clamps), omega (arith, ints, clamps));
      right = (omega (arith, ints, clamps), omega (arith, ints, clamps));
      top = (omega (arith, ints, clamps), omega (arith, ints, clamps));
    }))
    (cases_Bool (is_empty s)))
    (cases_Bool (is_empty r))

-- grown by at most k on each side
pub IsUpTo-grown : (n k : ℕ) (h v : ℤ) (r : Bounds) → pos 0 ≤ℤ h → pos 0 ≤ℤ v → h ≤ℤ pos k → v ≤ℤ pos k → IsUpTo n r → IsUpTo (n + k) (grown r h v)
IsUpTo-grown n k h v r h_low v_low h_few v_few up_to =
    by_empty (IsUpTo (n + k)) r (λ r. grown r h v) (λ r. grown-empty r h v) (IsUpTo-none (n + k))
    (λ some.
    let left = up_to.left in
    let bottom = up_to.bottom in
    let right = up_to.right in
    let top = up_to.top in
    subst (IsUpTo (n + k)) (sym (grown-proper r h v some)) (record {
      left = (omega (arith, ints), omega (arith, ints));
      bottom = (omega (arith, ints), omega (arith, ints));
      right = (omega (arith, ints), omega (arith, ints));
      top = (omega (arith, ints), omega (arith, ints));
    }))

-- moved by at most k columns and rows
pub IsUpTo-shifted : (n k : ℕ) (dx dy : ℤ) (r : Bounds) → IsStep k dx → IsStep k dy → IsUpTo n r → IsUpTo (n + k) (shifted r dx dy)
IsUpTo-shifted n k dx dy r columns rows up_to =
    by_empty (IsUpTo (n + k)) r (λ r. shifted r dx dy) (λ r. shifted-empty r dx dy) (IsUpTo-none (n + k))
    (λ some.
    let left = up_to.left in
    let bottom = up_to.bottom in
    let right = up_to.right in
    let top = up_to.top in
    subst (IsUpTo (n + k)) (sym (shifted-proper r dx dy some)) (record {
      left = (omega (arith, ints), omega (arith, ints));
      bottom = (omega (arith, ints), omega (arith, ints));
      right = (omega (arith, ints), omega (arith, ints));
      top = (omega (arith, ints), omega (arith, ints));
    }))

-- what both hold reaches no further than either
pub IsUpTo-meet : (n : ℕ) (r s : Bounds) → IsUpTo n r → IsUpTo n (meet r s)
IsUpTo-meet n r s up_to =
    let left = up_to.left in
    let bottom = up_to.bottom in
    let right = up_to.right in
    let top = up_to.top in
    rect_of-cases (IsUpTo n) (int_max r.x1 s.x1) (int_max r.y1 s.y1) (int_min r.x2 s.x2) (int_min r.y2 s.y2) (IsUpTo-none n)
    (λ wide high. record {
      left = (omega (arith, ints, clamps), omega (arith, ints, clamps));
      bottom = (omega (arith, ints, clamps), omega (arith, ints, clamps));
      right = (omega (arith, ints, clamps), omega (arith, ints, clamps));
      top = (omega (arith, ints, clamps), omega (arith, ints, clamps));
    })

-- rectangles with coordinates up to 2^30 are near, and near ones have such
pub IsNear-up_to : (n : ℕ) (r : Bounds) → n ≤ 1073741824 → IsUpTo n r → IsNear r
IsNear-up_to n r few up_to =
    let left = up_to.left in
    let bottom = up_to.bottom in
    let right = up_to.right in
    let top = up_to.top in
    record { left = omega (arith, ints); right = omega (arith, ints); bottom = omega (arith, ints); top = omega (arith, ints) }

pub IsUpTo-near : (r : Bounds) → IsRect r → IsNear r → IsUpTo 1073741824 r
IsUpTo-near r (inl is) near = subst (IsUpTo 1073741824) (sym is) (IsUpTo-none 1073741824)
IsUpTo-near r (inr proper) near =
    let wide = proper.0 in
    let high = proper.1 in
    record {
      left = (omega (arith, ints), omega (arith, ints));
      bottom = (omega (arith, ints), omega (arith, ints));
      right = (omega (arith, ints), omega (arith, ints));
      top = (omega (arith, ints), omega (arith, ints));
    }

pub IsNear-hull : (r s : Bounds) → IsRect r → IsRect s → IsNear r → IsNear s → IsNear (hull r s)
IsNear-hull r s first second near_r near_s =
    IsNear-up_to 1073741824 (hull r s) (omega arith) (IsUpTo-hull 1073741824 r s (IsUpTo-near r first near_r) (IsUpTo-near s second near_s))
