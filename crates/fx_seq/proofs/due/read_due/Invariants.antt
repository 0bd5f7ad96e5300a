use Rattle.std.proofs.Common.{◌≤◌, ◌^◌, [], take}
use Rattle.fx_outside.specs.Outside.{SameFiles}
use Rattle.fx_seq.specs.Lists.{ReadsMore}
use Rattle.fx_seq.specs.Moments.{due_at}
use Rattle.fx_seq.specs.Filling.{IsQuiet}
use Rattle.fx_seq.proofs.due.read_due.Given as goal

abbrev pub invariant-loop-used : goal.invariant-loop-used
invariant-loop-used g l =
    let library = g.L.Library in
    let due = due_at (take l.used-index l.uses) l.moment in
    record {
      reads : ReadsMore library.tells (library.file l.fn.library) l.most_side l.limit l.held due [] l.frames.items l.sum;
      few : l.sum ≤ 2 ^ 62;
      later : library.faults l.fn.library ≤ library.faults l.library;
      quiet : IsQuiet (library.faults l.fn.library) (library.faults l.library) (library.last l.fn.library) (library.last l.library);
      same : library.tells → SameFiles (library.file l.fn.library) (library.file l.library);
    }
