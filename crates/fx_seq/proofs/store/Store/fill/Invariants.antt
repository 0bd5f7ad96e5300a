use Rattle.std.proofs.Common.{◌≤◌, ◌^◌, [], take}
use Rattle.fx_outside.specs.Outside.{SameFiles}
use Rattle.fx_seq.specs.Lists.{ReadsMore}
use Rattle.fx_seq.specs.Filling.{IsQuiet}
use Rattle.fx_seq.proofs.store.Store.fill.Given as goal

abbrev pub invariant-loop-frame : goal.invariant-loop-frame
invariant-loop-frame g l =
    let library = g.L.Library in
    let read = take l.frame-index l.wanted in
    record {
      reads : ReadsMore library.tells (library.file l.fn.library) l.most_side l.limit 0 read [] l.frames.items l.sum;
      few : l.sum ≤ 2 ^ 62;
      later : library.faults l.fn.library ≤ library.faults l.library;
      quiet : IsQuiet (library.faults l.fn.library) (library.faults l.library) (library.last l.fn.library) (library.last l.library);
      same : library.tells → SameFiles (library.file l.fn.library) (library.file l.library);
    }
