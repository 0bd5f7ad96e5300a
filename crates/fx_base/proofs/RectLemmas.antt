-- Rectangles by their bounds and by their places.
use Rattle.std.proofs.Common.{◌≡◌, ◌∙◌, ℤ, pos, ◌+ℤ◌, ◌-ℤ◌, ◌≤ℤ◌, ◌<ℤ◌, Bool, true, false, ◌&&◌, ⊎_elim, inl, inr, refl, sym, ap, subst, arith}
use Rattle.std.specs.Int.{int_min, int_max}
use Rattle.std.specs.Int.Signed.{le_z, lt_z}
use Rattle.std.proofs.lemmas.Bool.{cond-true, cond-false, cases_Bool, and_from, and_parts}
use Rattle.std.proofs.lemmas.Int.{ints, clamps}
use Rattle.fx_base.specs.Bounds.{Bounds, IsRect, none}
use Rattle.fx_base.specs.Rect.{Holds, IsWithin, Reaches, within, rect_of, is_empty, meet, hull, grown, shifted, stretched}

-- a rectangle that isn't empty holds its bottom left place
pub holds_corner : (r : Bounds) → r.x1 <ℤ r.x2 → r.y1 <ℤ r.y2 → Holds r r.x1 r.y1
holds_corner r wide high = grind (arith, ints)

pub is_none_without_places : (r : Bounds) → IsRect r → ((x y : ℤ) → Holds r x y → ⊥) → r.x2 ≤ℤ r.x1
is_none_without_places r (inl is) empty = let left = ap (λ b. b.x1) is in let right = ap (λ b. b.x2) is in grind (arith, ints)
is_none_without_places r (inr proper) empty = absurd (empty r.x1 r.y1 (holds_corner r proper.0 proper.1))

-- what the test of a place tells
pub record IsInside (r : Bounds) (x y : ℤ) : Type 0 where
  pub left : r.x1 ≤ℤ x
  pub right : x <ℤ r.x2
  pub bottom : r.y1 ≤ℤ y
  pub top : y <ℤ r.y2

pub IsInside-from_holds : (r : Bounds) (x y : ℤ) → Holds r x y → IsInside r x y
IsInside-from_holds r x y h = record {
  left = grind (arith, ints);
  right = grind (arith, ints);
  bottom = grind (arith, ints);
  top = grind (arith, ints);
}

pub Holds-from_inside : (r : Bounds) (x y : ℤ) → IsInside r x y → Holds r x y
Holds-from_inside r x y h = grind (arith, ints)

-- two tests with one meaning
pub same_test : (a b : Bool) → (a ≡ true → b ≡ true) → (b ≡ true → a ≡ true) → a ≡ b
same_test true b there back = sym (there refl)
same_test false true there back = back refl
same_test false false there back = refl

-- a rectangle that isn't empty has a column and a row
pub record IsProper (r : Bounds) : Type 0 where
  pub wide : r.x1 <ℤ r.x2
  pub high : r.y1 <ℤ r.y2

pub IsProper-from_test : (r : Bounds) → is_empty r ≡ false → IsProper r
IsProper-from_test r test = record { wide = grind (arith, ints); high = grind (arith, ints) }

pub is_empty-proper : (r : Bounds) → IsProper r → is_empty r ≡ false
is_empty-proper r proper = grind (arith, ints)

pub IsProper-from_rect : (r : Bounds) → IsRect r → (r ≡ none → ⊥) → IsProper r
IsProper-from_rect r (inl is) some = absurd (some is)
IsProper-from_rect r (inr proper) some = record { wide = proper.0; high = proper.1 }

pub IsRect-proper : (r : Bounds) → IsProper r → IsRect r
IsRect-proper r proper = inr (proper.wide, proper.high)

pub is_empty-holds : (r : Bounds) (x y : ℤ) → is_empty r ≡ true → Holds r x y → ⊥
is_empty-holds r x y test h = let inside = IsInside-from_holds r x y h in grind (arith, ints)

-- the bounds of the first hold those of the second
pub record Encloses (s r : Bounds) : Type 0 where
  pub left : s.x1 ≤ℤ r.x1
  pub right : r.x2 ≤ℤ s.x2
  pub bottom : s.y1 ≤ℤ r.y1
  pub top : r.y2 ≤ℤ s.y2

pub Encloses-from_within : (r s : Bounds) → IsProper r → IsWithin r s → Encloses s r
Encloses-from_within r s proper h =
    let low = IsInside-from_holds s r.x1 r.y1 (h r.x1 r.y1 (holds_corner r proper.wide proper.high)) in
    let last : IsInside r (r.x2 -ℤ pos 1) (r.y2 -ℤ pos 1) = record {
      left = omega (arith, ints);
      right = omega (arith, ints);
      bottom = omega (arith, ints);
      top = omega (arith, ints);
    } in
    let high = IsInside-from_holds s _ _ (h _ _ (Holds-from_inside r _ _ last)) in
    record { left = low.left; right = omega (arith, ints); bottom = low.bottom; top = omega (arith, ints) }

pub IsWithin-enclosed : (r s : Bounds) → Encloses s r → IsWithin r s
IsWithin-enclosed r s h x y held =
    let inside = IsInside-from_holds r x y held in
    Holds-from_inside s x y (record {
      left = omega (arith, ints);
      right = omega (arith, ints);
      bottom = omega (arith, ints);
      top = omega (arith, ints);
    })

-- the code's test of it
pub Encloses-from_test : (s r : Bounds) → (((le_z s.x1 r.x1 && le_z r.x2 s.x2) && le_z s.y1 r.y1) && le_z r.y2 s.y2) ≡ true → Encloses s r
Encloses-from_test s r test = record {
  left = grind (arith, ints);
  right = grind (arith, ints);
  bottom = grind (arith, ints);
  top = grind (arith, ints);
}

pub test-encloses : (s r : Bounds) → Encloses s r → (((le_z s.x1 r.x1 && le_z r.x2 s.x2) && le_z s.y1 r.y1) && le_z r.y2 s.y2) ≡ true
test-encloses s r h = grind (arith, ints)

pub IsWithin-empty : (r s : Bounds) → is_empty r ≡ true → IsWithin r s
IsWithin-empty r s test x y h = absurd (is_empty-holds r x y test h)

-- the places of bounds that `rect_of` reads
pub IsInside-rect_of : (x1 y1 x2 y2 x y : ℤ) → Holds (rect_of x1 y1 x2 y2) x y → IsInside (record { x1 = x1; y1 = y1; x2 = x2; y2 = y2 }) x y
IsInside-rect_of x1 y1 x2 y2 x y h = record {
  left = grind (arith, ints);
  right = grind (arith, ints);
  bottom = grind (arith, ints);
  top = grind (arith, ints);
}

pub Holds-rect_of : (x1 y1 x2 y2 x y : ℤ) → IsInside (record { x1 = x1; y1 = y1; x2 = x2; y2 = y2 }) x y → Holds (rect_of x1 y1 x2 y2) x y
Holds-rect_of x1 y1 x2 y2 x y h = grind (arith, ints)

-- what holds of no pixel, and of these bounds where they hold some
pub rect_of-cases : (P : Bounds → Type 0) (x1 y1 x2 y2 : ℤ) → P none → (x1 <ℤ x2 → y1 <ℤ y2 → P (record { x1 = x1; y1 = y1; x2 = x2; y2 = y2 })) → P (rect_of x1 y1 x2 y2)
rect_of-cases P x1 y1 x2 y2 nothing some =
    ⊎_elim
    (λ test. subst P (sym (cond-true (lt_z x1 x2 && lt_z y1 y2) (record { x1 = x1; y1 = y1; x2 = x2; y2 = y2 }) none test)) (some (grind (arith, ints)) (grind (arith, ints))))
    (λ test. subst P (sym (cond-false (lt_z x1 x2 && lt_z y1 y2) (record { x1 = x1; y1 = y1; x2 = x2; y2 = y2 }) none test)) nothing)
    (cases_Bool (lt_z x1 x2 && lt_z y1 y2))

-- the places of both
pub within-meet : (r s : Bounds) (x y : ℤ) → within (meet r s) x y ≡ (within r x y && within s x y)
within-meet r s x y =
    same_test _ _
    (λ h.
    let inside = IsInside-rect_of (int_max r.x1 s.x1) (int_max r.y1 s.y1) (int_min r.x2 s.x2) (int_min r.y2 s.y2) x y h in
    let first : Holds r x y = Holds-from_inside r x y (record {
      left = omega (arith, ints, clamps);
      right = omega (arith, ints, clamps);
      bottom = omega (arith, ints, clamps);
      top = omega (arith, ints, clamps);
    }) in
    let second : Holds s x y = Holds-from_inside s x y (record {
      left = omega (arith, ints, clamps);
      right = omega (arith, ints, clamps);
      bottom = omega (arith, ints, clamps);
      top = omega (arith, ints, clamps);
    }) in
    and_from _ _ first second)
    (λ h.
    let parts = and_parts (within r x y) (within s x y) h in
    let first = IsInside-from_holds r x y parts.0 in
    let second = IsInside-from_holds s x y parts.1 in
    Holds-rect_of (int_max r.x1 s.x1) (int_max r.y1 s.y1) (int_min r.x2 s.x2) (int_min r.y2 s.y2) x y (record {
      left = omega (arith, ints, clamps);
      right = omega (arith, ints, clamps);
      bottom = omega (arith, ints, clamps);
      top = omega (arith, ints, clamps);
    }))

-- what `hull` reads
pub hull-first_empty : (r s : Bounds) → is_empty r ≡ true → hull r s ≡ s
hull-first_empty r s test = cond-true (is_empty r) _ _ test

pub hull-second_empty : (r s : Bounds) → is_empty r ≡ false → is_empty s ≡ true → hull r s ≡ r
hull-second_empty r s first second = cond-false (is_empty r) _ _ first ∙ cond-true (is_empty s) _ _ second

pub hull-proper : (r s : Bounds) → is_empty r ≡ false → is_empty s ≡ false → hull r s ≡ record { x1 = int_min r.x1 s.x1; y1 = int_min r.y1 s.y1; x2 = int_max r.x2 s.x2; y2 = int_max r.y2 s.y2 }
hull-proper r s first second = cond-false (is_empty r) _ _ first ∙ cond-false (is_empty s) _ _ second

-- the four bounds round two rectangles
abbrev round : Bounds → Bounds → Bounds
round r s = record { x1 = int_min r.x1 s.x1; y1 = int_min r.y1 s.y1; x2 = int_max r.x2 s.x2; y2 = int_max r.y2 s.y2 }

Encloses-round_first : (r s : Bounds) → Encloses (round r s) r
Encloses-round_first r s = record {
  left = omega (arith, ints, clamps);
  right = omega (arith, ints, clamps);
  bottom = omega (arith, ints, clamps);
  top = omega (arith, ints, clamps);
}

Encloses-round_second : (r s : Bounds) → Encloses (round r s) s
Encloses-round_second r s = record {
  left = omega (arith, ints, clamps);
  right = omega (arith, ints, clamps);
  bottom = omega (arith, ints, clamps);
  top = omega (arith, ints, clamps);
}

Encloses-least : (r s t : Bounds) → Encloses t r → Encloses t s → Encloses t (round r s)
Encloses-least r s t first second = record {
  left = omega (arith, ints, clamps);
  right = omega (arith, ints, clamps);
  bottom = omega (arith, ints, clamps);
  top = omega (arith, ints, clamps);
}

pub IsWithin-hull_first : (r s : Bounds) → IsWithin r (hull r s)
IsWithin-hull_first r s =
    ⊎_elim
    (λ empty. IsWithin-empty r (hull r s) empty)
    (λ some. ⊎_elim
    (λ empty. subst (IsWithin r) (sym (hull-second_empty r s some empty)) (λ x y h. h))
    (λ both. subst (IsWithin r) (sym (hull-proper r s some both)) (IsWithin-enclosed r (round r s) (Encloses-round_first r s)))
    (cases_Bool (is_empty s)))
    (cases_Bool (is_empty r))

pub IsWithin-hull_second : (r s : Bounds) → IsWithin s (hull r s)
IsWithin-hull_second r s =
    ⊎_elim
    (λ empty. subst (IsWithin s) (sym (hull-first_empty r s empty)) (λ x y h. h))
    (λ some. ⊎_elim
    (λ empty. IsWithin-empty s (hull r s) empty)
    (λ both. subst (IsWithin s) (sym (hull-proper r s some both)) (IsWithin-enclosed s (round r s) (Encloses-round_second r s)))
    (cases_Bool (is_empty s)))
    (cases_Bool (is_empty r))

pub IsWithin-hull : (r s t : Bounds) → IsWithin r t → IsWithin s t → IsWithin (hull r s) t
IsWithin-hull r s t first second =
    ⊎_elim
    (λ empty. subst (λ u. IsWithin u t) (sym (hull-first_empty r s empty)) second)
    (λ some. ⊎_elim
    (λ empty. subst (λ u. IsWithin u t) (sym (hull-second_empty r s some empty)) first)
    (λ both. subst (λ u. IsWithin u t) (sym (hull-proper r s some both)) (IsWithin-enclosed (round r s) t (Encloses-least r s t (Encloses-from_within r t (IsProper-from_test r some) first) (Encloses-from_within s t (IsProper-from_test s both) second))))
    (cases_Bool (is_empty s)))
    (cases_Bool (is_empty r))

-- what `grown` and `shifted` read
pub grown-empty : (r : Bounds) (h v : ℤ) → is_empty r ≡ true → grown r h v ≡ none
grown-empty r h v test = cond-true (is_empty r) _ _ test

pub grown-proper : (r : Bounds) (h v : ℤ) → is_empty r ≡ false → grown r h v ≡ record { x1 = r.x1 -ℤ h; y1 = r.y1 -ℤ v; x2 = r.x2 +ℤ h; y2 = r.y2 +ℤ v }
grown-proper r h v test = cond-false (is_empty r) _ _ test

pub shifted-empty : (r : Bounds) (dx dy : ℤ) → is_empty r ≡ true → shifted r dx dy ≡ none
shifted-empty r dx dy test = cond-true (is_empty r) _ _ test

pub shifted-proper : (r : Bounds) (dx dy : ℤ) → is_empty r ≡ false → shifted r dx dy ≡ record { x1 = r.x1 +ℤ dx; y1 = r.y1 +ℤ dy; x2 = r.x2 +ℤ dx; y2 = r.y2 +ℤ dy }
shifted-proper r dx dy test = cond-false (is_empty r) _ _ test

none_holds_nothing : (x y : ℤ) → Holds none x y → ⊥
none_holds_nothing x y h = is_empty-holds none x y refl h

reached : (r : Bounds) (h v x y : ℤ) → IsProper r → pos 0 ≤ℤ h → pos 0 ≤ℤ v → IsInside (record { x1 = r.x1 -ℤ h; y1 = r.y1 -ℤ v; x2 = r.x2 +ℤ h; y2 = r.y2 +ℤ v }) x y → Reaches r h v x y
reached r h v x y proper h_low v_low inside =
    let near_column = int_max r.x1 (int_min x (r.x2 -ℤ pos 1)) in
    let near_row = int_max r.y1 (int_min y (r.y2 -ℤ pos 1)) in
    record {
      column = near_column;
      row = near_row;
      held = Holds-from_inside r near_column near_row (record {
        left = omega (arith, ints, clamps);
        right = omega (arith, ints, clamps);
        bottom = omega (arith, ints, clamps);
        top = omega (arith, ints, clamps);
      });
      left = omega (arith, ints, clamps);
      right = omega (arith, ints, clamps);
      bottom = omega (arith, ints, clamps);
      top = omega (arith, ints, clamps);
    }

pub Reaches-from_grown : (r : Bounds) (h v x y : ℤ) → pos 0 ≤ℤ h → pos 0 ≤ℤ v → Holds (grown r h v) x y → Reaches r h v x y
Reaches-from_grown r h v x y h_low v_low held =
    ⊎_elim
    (λ empty. absurd (none_holds_nothing x y (subst (λ b. Holds b x y) (grown-empty r h v empty) held)))
    (λ some. reached r h v x y (IsProper-from_test r some) h_low v_low (IsInside-from_holds _ x y (subst (λ b. Holds b x y) (grown-proper r h v some) held)))
    (cases_Bool (is_empty r))

pub Holds-grown : (r : Bounds) (h v x y : ℤ) → Reaches r h v x y → Holds (grown r h v) x y
Holds-grown r h v x y near =
    ⊎_elim
    (λ empty. absurd (is_empty-holds r near.column near.row empty near.held))
    (λ some.
    let inside = IsInside-from_holds r near.column near.row near.held in
    subst (λ b. Holds b x y) (sym (grown-proper r h v some)) (Holds-from_inside _ x y (record {
      left = omega (arith, ints);
      right = omega (arith, ints);
      bottom = omega (arith, ints);
      top = omega (arith, ints);
    })))
    (cases_Bool (is_empty r))

moved : (r : Bounds) (dx dy x y : ℤ) → within (record { x1 = r.x1 +ℤ dx; y1 = r.y1 +ℤ dy; x2 = r.x2 +ℤ dx; y2 = r.y2 +ℤ dy }) (x +ℤ dx) (y +ℤ dy) ≡ within r x y
moved r dx dy x y =
    same_test _ _
    (λ h. let inside = IsInside-from_holds (record { x1 = r.x1 +ℤ dx; y1 = r.y1 +ℤ dy; x2 = r.x2 +ℤ dx; y2 = r.y2 +ℤ dy }) (x +ℤ dx) (y +ℤ dy) h in Holds-from_inside r x y (record {
      left = omega (arith, ints);
      right = omega (arith, ints);
      bottom = omega (arith, ints);
      top = omega (arith, ints);
    }))
    (λ h. let inside = IsInside-from_holds r x y h in Holds-from_inside (record { x1 = r.x1 +ℤ dx; y1 = r.y1 +ℤ dy; x2 = r.x2 +ℤ dx; y2 = r.y2 +ℤ dy }) (x +ℤ dx) (y +ℤ dy) (record {
      left = omega (arith, ints);
      right = omega (arith, ints);
      bottom = omega (arith, ints);
      top = omega (arith, ints);
    }))

pub within-shifted : (r : Bounds) (dx dy x y : ℤ) → within (shifted r dx dy) (x +ℤ dx) (y +ℤ dy) ≡ within r x y
within-shifted r dx dy x y =
    ⊎_elim
    (λ empty. ap (λ b. within b (x +ℤ dx) (y +ℤ dy)) (shifted-empty r dx dy empty) ∙ same_test _ _ (λ h. absurd (none_holds_nothing (x +ℤ dx) (y +ℤ dy) h)) (λ h. absurd (is_empty-holds r x y empty h)))
    (λ some. ap (λ b. within b (x +ℤ dx) (y +ℤ dy)) (shifted-proper r dx dy some) ∙ moved r dx dy x y)
    (cases_Bool (is_empty r))

pub is_empty-none : (r : Bounds) → r ≡ none → is_empty r ≡ true
is_empty-none r is = ap is_empty is

pub IsProper-hull : (r s : Bounds) → IsProper r → IsProper s → IsProper (hull r s)
IsProper-hull r s first second = subst IsProper (sym (hull-proper r s (is_empty-proper r first) (is_empty-proper s second))) (record { wide = omega (arith, ints, clamps); high = omega (arith, ints, clamps) })

-- four numbers that are the bounds of `hull` and `stretched`
pub hull_made : (r s : Bounds) (x1 y1 x2 y2 : ℤ) → IsProper r → IsProper s → x1 ≡ int_min r.x1 s.x1 → y1 ≡ int_min r.y1 s.y1 → x2 ≡ int_max r.x2 s.x2 → y2 ≡ int_max r.y2 s.y2 → record { x1 = x1; y1 = y1; x2 = x2; y2 = y2 } ≡ hull r s
hull_made r s x1 y1 x2 y2 first second left bottom right top = rw (left, bottom, right, top) (sym (hull-proper r s (is_empty-proper r first) (is_empty-proper s second)))

pub stretched_made : (r : Bounds) (left bottom right top x1 y1 x2 y2 : ℤ) → IsProper r → x1 ≡ r.x1 +ℤ left → y1 ≡ r.y1 +ℤ bottom → x2 ≡ r.x2 +ℤ right → y2 ≡ r.y2 +ℤ top → record { x1 = x1; y1 = y1; x2 = x2; y2 = y2 } ≡ stretched r left bottom right top
stretched_made r left bottom right top x1 y1 x2 y2 proper to_left to_bottom to_right to_top = rw (to_left, to_bottom, to_right, to_top) (sym (cond-false (is_empty r) _ _ (is_empty-proper r proper)))

-- numbers that are equal move it alike
pub stretched_by : (r : Bounds) (left' bottom' right' top' left bottom right top : ℤ) → left' ≡ left → bottom' ≡ bottom → right' ≡ right → top' ≡ top → stretched r left' bottom' right' top' ≡ stretched r left bottom right top
stretched_by r left' bottom' right' top' left bottom right top to_left to_bottom to_right to_top = rw (to_left, to_bottom, to_right, to_top) refl

pub IsProper-stretched : (r : Bounds) (left bottom right top : ℤ) → IsProper r → left ≤ℤ right → bottom ≤ℤ top → IsProper (stretched r left bottom right top)
IsProper-stretched r left bottom right top proper columns rows =
    subst IsProper (sym (cond-false (is_empty r) _ _ (is_empty-proper r proper))) (record { wide = omega (arith, ints); high = omega (arith, ints) })

pub IsProper-grown : (r : Bounds) (h v : ℤ) → IsProper r → pos 0 ≤ℤ h → pos 0 ≤ℤ v → IsProper (grown r h v)
IsProper-grown r h v proper h_low v_low = subst IsProper (sym (grown-proper r h v (is_empty-proper r proper))) (record { wide = omega (arith, ints); high = omega (arith, ints) })

pub IsProper-shifted : (r : Bounds) (dx dy : ℤ) → IsProper r → IsProper (shifted r dx dy)
IsProper-shifted r dx dy proper = subst IsProper (sym (shifted-proper r dx dy (is_empty-proper r proper))) (record { wide = omega (arith, ints); high = omega (arith, ints) })
