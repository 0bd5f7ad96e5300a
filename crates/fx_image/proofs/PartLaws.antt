-- The pixels of a part after one more of its rows was written.
use Rattle.std.proofs.Common.{◌≡◌, ◌≢◌, ◌⊎◌, inl, inr, ℕ, ◌+◌, ◌*◌, ℤ, pos, ◌+ℤ◌, ◌≤ℤ◌, ◌<ℤ◌, List, length, refl, sym, subst, arith, ◌∙◌}
use Rattle.std.specs.Int.{int_gap}
use Rattle.std.proofs.lemmas.Int.{ints, by_lt_z}
use Rattle.fx_base.specs.Bounds.{Bounds}
use Rattle.fx_base.specs.Rect.{Holds, columns}
use Rattle.fx_pixel.specs.declared.Pixel.{Pixel}
use Rattle.fx_image.specs.Rows.{HasRows}
use Rattle.fx_image.specs.Stored.{Stored, IsStored, SameFrame, pixel_size, pixel_in, shown}
use Rattle.fx_image.specs.Runs.{IsRun}
use Rattle.fx_image.specs.ImageLending.{with_row}
use Rattle.fx_image.specs.Part.{IsPart, SamePart, part_with, with_run, narrowed, WroteRows, IsNextRow}
use Rattle.fx_image.specs.declared.part.Part.{Part}
use Rattle.fx_image.proofs.ImageLaws.{gap_is, IsInside, inside_from, row_run, place_from, place_to}
use Rattle.fx_image.proofs.ImageWrites.{same_frame, written_inside, written_beside, written_other}

same_again : {r s t : Stored} → SameFrame r s → SameFrame s t → SameFrame r t
same_again a b = record { rect = b.rect ∙ a.rect; depth = b.depth ∙ a.depth; components = b.components ∙ a.components; pitch = b.pitch ∙ a.pitch; height = b.height ∙ a.height; step = b.step ∙ a.step; blocks = b.blocks ∙ a.blocks }

-- nothing is written yet
pub wrote_none : (p : Part) (f : ℤ → ℤ → Pixel) → WroteRows p p.image.now p.rect.y1 f
wrote_none p f = record { inside = λ x y inside below. absurd (omega (arith, ints, (place_from p.rect x y inside).bottom)); outside = λ x y out. refl }

same_or_below : (y' y : ℤ) → y' <ℤ (y +ℤ pos 1) → (y' ≡ y) ⊎ (y' <ℤ y)
same_or_below y' y h = by_lt_z y' y (λ k. inr k) (λ k. inl (omega (arith, ints)))

same_or_not : (y' y : ℤ) → (y' ≡ y) ⊎ (y' ≢ y)
same_or_not y' y = by_lt_z y' y (λ h. inr (λ e. absurd (omega (arith, ints)))) (λ h. by_lt_z y y' (λ k. inr (λ e. absurd (omega (arith, ints)))) (λ k. inl (omega (arith, ints))))

module _ (p : Part) (now : Stored) (y : ℤ) (f : ℤ → ℤ → Pixel) (ws : List ℕ) (is : IsStored now) (has : HasRows now.raster) (run : IsRun now p.rect.x1 y (columns p.rect)) (wide : p.rect.x1 ≤ℤ p.rect.x2)
    (low : p.rect.y1 ≤ℤ y) (high : y <ℤ p.rect.y2) (long : length ws ≡ columns p.rect * pixel_size now.depth now.components)
    (right : (x : ℤ) → Holds p.rect x y → pixel_in now.depth now.components ws (int_gap p.rect.x1 x) ≡ f x y) (before : WroteRows p now y f) where
  abbrev new : Stored
  new = with_row now p.rect.x1 y ws

  whole : p.rect.x1 +ℤ pos (columns p.rect) ≡ p.rect.x2
  whole = gap_is p.rect.x1 p.rect.x2 wide

  here : (x : ℤ) → Holds p.rect x y → shown new x y ≡ f x y
  here x inside =
      let place = place_from p.rect x y inside in
      written_inside now p.rect.x1 y (columns p.rect) ws is has run long x place.left (omega (arith, ints, place.right, whole)) ∙ right x inside

  inside_by : (x' y' : ℤ) → Holds p.rect x' y' → (y' ≡ y) ⊎ (y' <ℤ y) → shown new x' y' ≡ f x' y'
  inside_by x' y' inside (inl same) = subst (λ z. Holds p.rect x' z → shown new x' z ≡ f x' z) (sym same) (here x') inside
  inside_by x' y' inside (inr below) = written_other now p.rect.x1 y (columns p.rect) ws is has run long x' y' (λ e. absurd (omega (arith, ints))) ∙ before.inside x' y' inside below

  beside : (x' : ℤ) → (Holds p.rect x' y → ⊥) → (x' <ℤ p.rect.x1) ⊎ ((p.rect.x1 +ℤ pos (columns p.rect)) ≤ℤ x')
  beside x' out = by_lt_z x' p.rect.x1 (λ h. inl h) (λ h. by_lt_z x' p.rect.x2 (λ k. absurd (out (place_to p.rect x' y h k low high))) (λ k. inr (omega (arith, ints, whole))))

  outside_by : (x' y' : ℤ) → (Holds p.rect x' y' → y' <ℤ (y +ℤ pos 1) → ⊥) → (y' ≡ y) ⊎ (y' ≢ y) → shown new x' y' ≡ shown p.image.now x' y'
  outside_by x' y' out (inl same) =
      subst (λ z. (Holds p.rect x' z → z <ℤ (y +ℤ pos 1) → ⊥) → shown new x' z ≡ shown p.image.now x' z) (sym same)
      (λ none. written_beside now p.rect.x1 y (columns p.rect) ws is has run long x' (beside x' (λ inside. none inside (omega (arith, ints)))) ∙ before.outside x' y (λ inside below. none inside (omega (arith, ints)))) out
  outside_by x' y' out (inr apart) = written_other now p.rect.x1 y (columns p.rect) ws is has run long x' y' apart ∙ before.outside x' y' (λ inside below. out inside (omega (arith, ints)))

  row_written : WroteRows p new (y +ℤ pos 1) f
  row_written = record {
    inside = λ x' y' inside below. inside_by x' y' inside (same_or_below y' y below);
    outside = λ x' y' out. outside_by x' y' out (same_or_not y' y);
  }

-- one more row was written
pub wrote_row : (p q : Part) (y : ℤ) (f : ℤ → ℤ → Pixel) (ws : List ℕ) → SamePart p q → IsPart p → IsStored q.image.now → HasRows q.image.now.raster → p.rect.y1 ≤ℤ y → y <ℤ p.rect.y2 → length ws ≡ columns p.rect * pixel_size q.image.now.depth q.image.now.components
    → ((x : ℤ) → Holds p.rect x y → pixel_in q.image.now.depth q.image.now.components ws (int_gap p.rect.x1 x) ≡ f x y)
    → WroteRows p q.image.now y f → SamePart p (part_with q y ws) × WroteRows p (part_with q y ws).image.now (y +ℤ pos 1) f
wrote_row p q y f ws same part is has low high long right before =
    let there = inside_from p.rect p.image.now.rect y part.rect part.within low high in
    let inside : IsInside p.rect q.image.now.rect y = rw same.2.rect there in (
      (same.0, same.1, same_again same.2 (same_frame q.image.now q.rect.x1 y ws)),
      rw same.1 (row_written p q.image.now y f ws is has (row_run q.image.now p.rect y inside) (omega (arith, ints, there.wide)) low high long right before),
    )

-- the same of a rectangle within the part
pub wrote_within : (p q : Part) (rect : Bounds) (y : ℤ) (f : ℤ → ℤ → Pixel) (ws : List ℕ) → q.rect ≡ p.rect → IsNextRow (narrowed p rect) (narrowed q rect) y f ws
    → SamePart p (with_run q rect.x1 y ws) × WroteRows (narrowed p rect) (with_run q rect.x1 y ws).image.now (y +ℤ pos 1) f
wrote_within p q rect y f ws same_rect next =
    let wrote = wrote_row (narrowed p rect) (narrowed q rect) y f ws next.same next.part next.stored next.rows next.above next.below next.long next.right next.before in
    ((wrote.0.0, same_rect, wrote.0.2), wrote.1)

-- the same of row z of a part whose rows count from 0
pub wrote_row_up : (p q : Part) (y : ℕ) (z : ℤ) (f : ℤ → ℤ → Pixel) (ws : List ℕ) → z ≡ pos y → SamePart p q → IsPart p → IsStored q.image.now → HasRows q.image.now.raster → p.rect.y1 ≡ pos 0 → pos y <ℤ p.rect.y2 → length ws ≡ columns p.rect * pixel_size q.image.now.depth q.image.now.components
    → ((x : ℤ) → Holds p.rect x (pos y) → pixel_in q.image.now.depth q.image.now.components ws (int_gap p.rect.x1 x) ≡ f x (pos y))
    → WroteRows p q.image.now (pos y) f → SamePart p (part_with q z ws) × WroteRows p (part_with q z ws).image.now (pos (y + 1)) f
wrote_row_up p q y z f ws row same part is has bottom high long right before =
    subst (λ k. SamePart p (part_with q k ws) × WroteRows p (part_with q k ws).image.now (pos (y + 1)) f) (sym row)
    (wrote_row p q (pos y) f ws same part is has (omega (arith, ints, bottom)) high long right before)
