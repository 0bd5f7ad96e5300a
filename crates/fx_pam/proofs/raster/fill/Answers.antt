use Rattle.std.proofs.Common.{◌≡◌, ◌<◌, ◌-◌, ◌*◌, ℕ, ℤ, pos, length, w64, to_z, refl, sym, ap, subst, ◌∙◌, arith}
use Rattle.fx_base.specs.declared.limits.TheConstants.{MOST_SIDE}
use Rattle.std.specs.Int.{int_gap}
use Rattle.std.proofs.lemmas.Int.{ints, to_z_pos}
use Rattle.fx_base.specs.Bounds.{Bounds, IsRect}
use Rattle.fx_base.specs.Rect.{Holds, columns, IsWithin}
use Rattle.fx_pixel.specs.declared.Depth.{Depth}
use Rattle.fx_pixel.specs.declared.Components.{Components}
use Rattle.fx_pixel.specs.declared.Components.TheVariants.{Rgba as RgbaSamples}
use Rattle.fx_image.specs.Stored.{pixel_size, pixel_in}
use Rattle.fx_image.specs.declared.part.Part.{Part}
use Rattle.fx_image.specs.Part.{IsPart, SamePart, WroteRows}
use Rattle.fx_image.proofs.ImageLaws.{gap_is, place_from}
use Rattle.fx_image.proofs.PartLaws.{wrote_row_up}
use Rattle.fx_pam.specs.Reading.{header_with, depth_of, pixel_of}
use Rattle.fx_pam.specs.Raster.{pixel_from_bottom}
use Rattle.fx_pam.proofs.FileImage.{gap_none}
use Rattle.fx_pam.proofs.RasterLemmas.{row-whole, row-pixel}
use Rattle.fx_pam.proofs.raster.fill.Goals as goal

-- what a part has become is a part
still_part : (p q : Part) → SamePart p q → IsPart p → IsPart q
still_part p q same part = record {
  rect = subst IsRect (sym same.1) part.rect;
  within =
      subst (λ r. IsWithin r q.image.now.rect) (sym same.1)
      (subst (IsWithin p.rect) (sym same.2.rect) part.within);
}

pub row_mut-requires-clause-part : goal.row_mut-requires-clause-part
row_mut-requires-clause-part c = still_part c.args.out.now c.loop-y.out c.loop-y.invariant.same c.requires.part

pub fill_row-requires-clause-whole : goal.fill_row-requires-clause-whole
fill_row-requires-clause-whole c =
    let h = header_with c.args.numbers c.args.bytes.now in
    rw c.file_row-source.ensures.value (row-whole MOST_SIDE h (c.args.numbers.height - 1 - c.loop-y.y) (omega arith) c.requires.whole (omega (arith, c.loop-y-test.true)))

pub loop-y-preserved : goal.loop-y-preserved
loop-y-preserved c =
    let h = header_with c.args.numbers c.args.bytes.now in
    let p = c.args.out.now in
    let q = c.loop-y.out in
    let y = c.loop-y.y in
    let f = pixel_from_bottom h in
    let ws = c.fill_row.new.row in
    let same = c.loop-y.invariant.same in
    let r = h.height - 1 - y in
    let left : p.rect.x1 ≡ pos 0 = ap (λ (b : Bounds). b.x1) c.requires.rect in
    let right : p.rect.x2 ≡ pos c.args.numbers.width = ap (λ (b : Bounds). b.x2) c.requires.rect in
    let bottom : p.rect.y1 ≡ pos 0 = ap (λ (b : Bounds). b.y1) c.requires.rect in
    let top : p.rect.y2 ≡ pos c.args.numbers.height = ap (λ (b : Bounds). b.y2) c.requires.rect in
    let deep : q.image.now.depth ≡ depth_of h = same.2.depth ∙ c.requires.depth in
    let samples : q.image.now.components ≡ RgbaSamples = same.2.components ∙ c.requires.components in
    let long : length ws ≡ columns p.rect * pixel_size q.image.now.depth q.image.now.components =
    c.fill_row.auto.row ∙ c.row_mut.ensures.len ∙ ap (λ b. columns b * pixel_size q.image.now.depth q.image.now.components) same.1 in
    let filled : (x : ℤ) → Holds p.rect x (pos y) → pixel_in q.image.now.depth q.image.now.components ws (int_gap p.rect.x1 x) ≡ f x (pos y) =
    λ x inside.
    let place = place_from p.rect x (pos y) inside in
    let column = int_gap (pos 0) x in
    let here = gap_is (pos 0) x (omega (arith, ints, place.left, left)) in
    let low : column < c.args.numbers.width = omega (arith, ints, place.right, right) in
    rw (deep, samples, left) (
    c.fill_row.ensures column low
    ∙ ap (λ bytes. pixel_of (header_with c.args.numbers bytes) 0 column) c.file_row-source.ensures.value
    ∙ row-pixel h r column c.requires.whole.ranged.depth.0 c.requires.whole.ranged.depth.1 low
    ∙ ap (λ k. pixel_of h (h.height - 1 - k) column) (sym (gap_none y))
    ) in
    let row : to_z w64 y ≡ pos y = to_z_pos w64 y (omega (arith, c.loop-y-test.true, c.requires.whole.ranged.height.1)) in
    let next = wrote_row_up p q y (to_z w64 y) f ws row same c.requires.part c.row_mut.ensures.stored c.row_mut.ensures.rows bottom (omega (arith, ints, top, c.loop-y-test.true)) long filled c.loop-y.invariant.written in
    record { up_to = omega (arith, c.loop-y-test.true); high = refl; same = next.0; written = next.1 }

pub returns : goal.returns
returns c =
    let same = c.loop-y.invariant.same in
    let top : c.args.out.now.rect.y2 ≡ pos c.loop-y.y = ap (λ (r : Bounds). r.y2) c.requires.rect ∙ ap pos (omega (arith, c.loop-y.invariant.up_to, c.loop-y-test.false)) in
    record { written = (same, subst (λ y. WroteRows c.args.out.now c.loop-y.out.image.now y (pixel_from_bottom (header_with c.args.numbers c.args.bytes.now))) (sym top) c.loop-y.invariant.written) }

-- how long a row of it is
row_is : (long w : ℕ) (b : Bounds) (d k : Depth) (s e : Components) → long ≡ columns b * pixel_size d s
    → columns b ≡ w → d ≡ k → s ≡ e → long ≡ w * pixel_size k e
row_is long w b d k s e is wide deep samples =
    is ∙ ap (λ n. n * pixel_size d s) wide ∙ ap (λ x. w * pixel_size x s) deep ∙ ap (λ x. w * pixel_size k x) samples

pub fill_row-requires-clause-row : goal.fill_row-requires-clause-row
fill_row-requires-clause-row c =
    let same = c.loop-y.invariant.same in
    let wide = ap columns (same.1 ∙ c.requires.rect) ∙ gap_none c.args.numbers.width in
    row_is _ c.args.numbers.width c.loop-y.out.rect _ _ _ _ c.row_mut.ensures.len wide (same.2.depth ∙ c.requires.depth)
    (same.2.components ∙ c.requires.components)
