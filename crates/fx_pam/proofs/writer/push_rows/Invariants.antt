use Rattle.std.proofs.Common.{◌≡◌, ◌++◌}
use Rattle.std.specs.Prelude.{◌≤ℤ◌}
use Rattle.std.specs.Int.{int_gap}
use Rattle.fx_image.specs.Stored.{image_of}
use Rattle.fx_pam.specs.Text.{raster}
use Rattle.fx_pam.proofs.writer.push_rows.Given as goal

abbrev pub invariant-loop-y : goal.invariant-loop-y
invariant-loop-y l = record {
  above : l.image.rect.y1 ≤ℤ l.y;
  below : l.y ≤ℤ l.image.rect.y2;
  so_far : l.out.items ≡ l.initial.out.items ++ raster l.format (image_of l.image) (int_gap l.y l.image.rect.y2);
}

abbrev pub decreases-loop-y : goal.decreases-loop-y
decreases-loop-y l = int_gap l.image.rect.y1 l.y
