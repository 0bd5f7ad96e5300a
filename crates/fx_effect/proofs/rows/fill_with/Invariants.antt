use Rattle.std.proofs.Common.{◌≡◌, ◌≤ℤ◌}
use Rattle.fx_image.specs.Part.{SamePart, WroteRows}
use Rattle.fx_effect.proofs.rows.fill_with.Given as goal

abbrev pub invariant-loop-y : goal.invariant-loop-y
invariant-loop-y g l =
    record {
      until : l.y-end ≡ l.initial.out.rect.y2;
      above : l.initial.out.rect.y1 ≤ℤ l.y;
      up_to : l.y ≤ℤ l.y-end;
      same : SamePart l.initial.out l.out;
      ready : g.K.RowKernel.ready l.kernel l.depth l.components l.initial.out.rect l.y l.cells;
      written : WroteRows l.initial.out l.out.image.now l.y (g.K.RowKernel.pixel l.kernel l.depth l.components);
    }
