use Rattle.std.proofs.Common.{◌≡◌, ◌∙◌, ap, length, take, Result, Ok, Err, OnErr, arith, to_z, w64}
use Rattle.std.specs.Int.{int_gap}
use Rattle.std.proofs.lemmas.Int.{ints}
use Rattle.fx_base.specs.Bounds.{Bounds}
use Rattle.fx_image.specs.Stored.{image_of}
use Rattle.fx_pam.specs.Text.{raster}
use Rattle.fx_pam.proofs.WrittenImage.{begun_with, raster-more}
use Rattle.fx_pam.proofs.writer.push_rows.Goals as goal

on_err : {A B : Type 0} {P : Type 0} (r : Result A B) → P → OnErr r P
on_err (Ok a) p = _
on_err (Err e) p = p

pub loop-y-preserved : goal.loop-y-preserved
loop-y-preserved c =
    let bottom = ap (λ (b : Bounds). b.y1) (c.rect.view_is ∙ c.rect-rect.ensures) in
    record {
      above = omega (arith, ints, bottom);
      below = omega (arith, ints);
      so_far =
          raster-more c.args.format (image_of c.args.image.now) (to_z w64 c.loop-y.y-bits) _ c.args.out.now.items c.loop-y.out.items c.push_row.new.out.items c.loop-y.invariant.below (omega (arith, ints))
          c.loop-y.invariant.so_far c.in_ok-push_row.ensures.ok;
    }

pub returns-in_err-push_row-clause-err : goal.returns-in_err-push_row-clause-err
returns-in_err-push_row-clause-err c =
    let so_far = raster c.args.format (image_of c.args.image.now) (int_gap (to_z w64 c.loop-y.y-bits) c.args.image.now.rect.y2) in
    let begun : take (length c.args.out.now.items) c.push_row.new.out.items ≡ c.args.out.now.items =
    begun_with c.args.out.now.items so_far c.loop-y.out.items c.push_row.new.out.items c.loop-y.invariant.so_far c.in_err-push_row.ensures.err in
    on_err c.from_residual.result begun
