use Rattle.std.proofs.Common.{◌≤◌}
use Rattle.std.specs.VecDeque.{deque_len}
use Rattle.fx_seq.specs.Filling.{IsQuiet}
use Rattle.fx_pipe.specs.Blocks.{Spares}
use Rattle.fx_pipe.proofs.BlockLemmas.{HasPut}
use Rattle.fx_pipe.proofs.put.put_block.Given as goal

abbrev pub invariant-loop-one : goal.invariant-loop-one
invariant-loop-one g l =
    let d = g.D.Depot in
    record {
      put : HasPut d.tells l.fn.made.items l.made.items (d.file l.fn.depot) (d.file l.depot);
      quiet : IsQuiet (d.faults l.fn.depot) (d.faults l.depot) (d.last l.fn.depot) (d.last l.depot);
      later : d.faults l.fn.depot ≤ d.faults l.depot;
      spare : Spares l.fn.made.items l.made.items l.fn.spare.items l.spare.items;
    }

abbrev pub decreases-loop-one : goal.decreases-loop-one
decreases-loop-one g l = deque_len l.made
