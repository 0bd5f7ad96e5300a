use Rattle.std.proofs.Common.{◌≡◌, ◌*◌, ◌≤◌, length, pos, ◌+ℤ◌, ◌≤ℤ◌, ◌<ℤ◌}
use Rattle.fx_base.specs.Rect.{columns}
use Rattle.fx_eval.specs.Cuts.{along}
use Rattle.fx_eval.proofs.CutLemmas.{Rows}
use Rattle.fx_eval.proofs.cuts.cut.Given as goal

abbrev pub invariant-loop-j : goal.invariant-loop-j
invariant-loop-j l =
    record {
      enough : l.y2 ≤ℤ (l.y1 +ℤ pos (l.j-end * 4096));
      least : (l.y1 +ℤ pos (l.j-end * 4096)) <ℤ (l.y2 +ℤ pos 4096);
      low : l.j ≤ l.j-end;
      rows : Rows l.fn.r (l.y1 +ℤ pos (l.j * 4096)) l.cuts.items;
      count : length l.cuts.items ≡ l.j * along (columns l.fn.r);
    }
