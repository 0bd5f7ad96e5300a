use Rattle.std.proofs.Common.{◌≡◌, ◌+◌, ◌*◌, ◌≤◌, length, pos, ◌+ℤ◌, ◌≤ℤ◌, ◌<ℤ◌}
use Rattle.fx_eval.specs.Cuts.{AddsUpTo}
use Rattle.fx_eval.proofs.cuts.add_row.Given as goal

abbrev pub invariant-loop-i : goal.invariant-loop-i
invariant-loop-i l =
    record {
      enough : l.x2 ≤ℤ (l.x1 +ℤ pos (l.i-end * 4096));
      least : (l.x1 +ℤ pos (l.i-end * 4096)) <ℤ (l.x2 +ℤ pos 4096);
      low : l.i ≤ l.i-end;
      row : AddsUpTo l.x1 l.x2 (l.x1 +ℤ pos (l.i * 4096)) l.bottom l.top l.fn.cuts.items l.cuts.items;
      count : length l.cuts.items ≡ length l.fn.cuts.items + l.i;
    }
