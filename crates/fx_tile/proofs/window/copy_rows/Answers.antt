use Rattle.std.proofs.Common.{◌≡◌, ℤ, pos, ◌+ℤ◌, get_or, refl, sym, ap, subst, arith, ◌∙◌, w64, to_z, of_z, FitsSigned, rules, List, length, ◌<◌, ◌*◌}
use Rattle.std.proofs.lemmas.Int.{ints, to_z-of_z}
use mir.Val.{SFits}
use Rattle.fx_base.specs.Bounds.{Bounds}
use Rattle.fx_base.specs.Rect.{Holds, columns}
use Rattle.fx_pixel.specs.declared.Depth.{Depth}
use Rattle.fx_pixel.specs.declared.Components.{Components}
use Rattle.fx_pixel.specs.declared.Components.TheVariants.{Rgba}
use Rattle.fx_image.specs.Stored.{pixel_size}
use Rattle.fx_image.specs.Part.{WroteRows, narrowed, with_run}
use Rattle.fx_image.proofs.PartLaws.{wrote_none, wrote_within}
use Rattle.fx_effect.specs.Given.{clip_components, row_pixel}
use Rattle.fx_effect.proofs.PieceLaws.{is_high, is_wide}
use Rattle.fx_props.proofs.EntryLaws.{fits_between}
use Rattle.fx_tile.proofs.WindowLemmas.{part_again, part_within, shows_row}
use Rattle.fx_tile.proofs.window.copy_rows.Goals as goal

pub loop-y-init : goal.loop-y-init
loop-y-init c =
    let p = c.args.out.now in
    let tile = c.args.tile in
    let low : FitsSigned w64 c.tile.inside.y1 = search rules in
    let high : FitsSigned w64 c.tile.inside.y2 = search rules in
    let bottom : to_z w64 (of_z w64 c.tile.inside.y1) ≡ tile.y1 = to_z-of_z w64 c.tile.inside.y1 low ∙ ap (λ (b : Bounds). b.y1) c.tile.view_is in
    let top : to_z w64 (of_z w64 c.tile.inside.y2) ≡ tile.y2 = to_z-of_z w64 c.tile.inside.y2 high ∙ ap (λ (b : Bounds). b.y2) c.tile.view_is in
    let f = row_pixel c.args.inputs.now 0 (to_z w64 (of_z w64 c.args.frame)) in
    record {
      until = top;
      above = omega (arith, ints, bottom);
      up_to = omega (arith, ints, bottom, top, is_high tile c.requires.bounds);
      same = (refl, refl, record { rect = refl; depth = refl; components = refl; pitch = refl; height = refl; step = refl; blocks = refl });
      written = subst (λ y. WroteRows (narrowed p tile) p.image.now y f) (sym bottom) (wrote_none (narrowed p tile) f);
    }

pub row_within_mut-requires-clause-part : goal.row_within_mut-requires-clause-part
row_within_mut-requires-clause-part c = part_again c.args.out.now c.loop-y.out c.loop-y.invariant.same c.requires.part

pub loop-y-preserved : goal.loop-y-preserved
loop-y-preserved c =
    let p = c.args.out.now in
    let q = c.loop-y.out in
    let tile = c.args.tile in
    let y = to_z w64 c.loop-y.y-bits in
    let same = c.loop-y.invariant.same in
    let ws = c.read_row.new.row in
    let given = c.args.inputs.now in
    let f = row_pixel given 0 (to_z w64 (of_z w64 c.args.frame)) in
    let deep : given.depth ≡ q.image.now.depth = c.requires.depth ∙ sym same.2.depth in
    let samples : clip_components given 0 ≡ q.image.now.components = ap (λ (ks : List Components). get_or ks 0 Rgba) c.requires.components ∙ sym same.2.components in
    let low : FitsSigned w64 c.tile.inside.y1 = search rules in
    let high : FitsSigned w64 c.tile.inside.y2 = search rules in
    let bottom : c.tile.inside.y1 ≡ tile.y1 = ap (λ (b : Bounds). b.y1) c.tile.view_is in
    let until : c.tile.inside.y2 ≡ tile.y2 = ap (λ (b : Bounds). b.y2) c.tile.view_is in
    let up : to_z w64 (of_z w64 (y +ℤ pos 1)) ≡ y +ℤ pos 1 = to_z-of_z w64 (y +ℤ pos 1) (fits_between c.tile.inside.y1 (y +ℤ pos 1) c.tile.inside.y2 low high (omega (arith, ints, bottom, c.loop-y.invariant.above)) (omega (arith, ints, c.loop-y-test.true, until, c.loop-y.invariant.until))) in
    let next = wrote_within p q tile y f ws same.1 (record {
      same = (same.0, refl, same.2);
      part = part_within p tile c.requires.part c.requires.bounds c.requires.within;
      stored = c.row_within_mut.ensures.stored;
      rows = c.row_within_mut.ensures.rows;
      above = c.loop-y.invariant.above;
      below = omega (arith, ints, c.loop-y-test.true, c.loop-y.invariant.until);
      long = c.read_row.auto.row ∙ c.row_within_mut.ensures.len;
      right = shows_row given.depth q.image.now.depth (clip_components given 0) q.image.now.components tile y f ws deep samples c.read_row.ensures;
      before = c.loop-y.invariant.written;
    }) in
    record {
      until = c.loop-y.invariant.until;
      above = omega (arith, ints, up, c.loop-y.invariant.above);
      up_to = omega (arith, ints, up, c.loop-y-test.true);
      same = next.0;
      written = subst (λ z. WroteRows (narrowed p tile) (with_run q tile.x1 y ws).image.now z f) (sym up) next.1;
    }

pub returns-clause-pixels : goal.returns-clause-pixels
returns-clause-pixels c =
    let p = c.args.out.now in
    let q = c.loop-y.out in
    let tile = c.args.tile in
    let same = c.loop-y.invariant.same in
    let fits : SFits w64 c.args.frame = c.ranges.frame in
    let top : to_z w64 c.loop-y.y-bits ≡ tile.y2 = omega (arith, ints, c.loop-y-test.false, c.loop-y.invariant.until, c.loop-y.invariant.up_to) in (
      (same.0, refl, same.2),
      subst (λ (z : ℤ). WroteRows (narrowed p tile) q.image.now z (row_pixel c.args.inputs.now 0 c.args.frame)) top
          (subst (λ (t : ℤ). WroteRows (narrowed p tile) q.image.now (to_z w64 c.loop-y.y-bits) (row_pixel c.args.inputs.now 0 t)) (to_z-of_z w64 _ fits) c.loop-y.invariant.written),
    )

pub row_within_mut-requires-clause-within : goal.row_within_mut-requires-clause-within
row_within_mut-requires-clause-within c x y h =
    subst (λ (r : Bounds). Holds r x y) (sym c.loop-y.invariant.same.1) (c.requires.within x y h)

pub row_within_mut-requires-clause-inside : goal.row_within_mut-requires-clause-inside
row_within_mut-requires-clause-inside c =
    (c.loop-y.invariant.above, omega (arith, ints, c.loop-y-test.true, c.loop-y.invariant.until))

pub read_row-requires-clause-clip : goal.read_row-requires-clause-clip
read_row-requires-clause-clip c =
    subst (λ (ks : List Components). 0 < length ks) (sym c.requires.components) (omega arith)

pub returns-clause-part : goal.returns-clause-part
returns-clause-part c = c.loop-y.invariant.same

pub read_row-requires-clause-row : goal.read_row-requires-clause-row
read_row-requires-clause-row c =
    let given = c.args.inputs.now in
    let out = c.loop-y.out.image.now in
    let same = c.loop-y.invariant.same.2 in
    let deep : given.depth ≡ out.depth = c.requires.depth ∙ sym same.depth in
    let samples : clip_components given 0 ≡ out.components =
    ap (λ (ks : List Components). get_or ks 0 Rgba) c.requires.components ∙ sym same.components in
    record {
      wide = is_wide c.args.tile c.requires.bounds;
      above = c.loop-y.invariant.above;
      below = omega (arith, ints, c.loop-y-test.true, c.loop-y.invariant.until);
      long = c.row_within_mut.ensures.len
          ∙ ap (λ (d : Depth). columns c.args.tile * pixel_size d out.components) (sym deep)
          ∙ ap (λ (k : Components). columns c.args.tile * pixel_size given.depth k) (sym samples);
    }
