use Rattle.std.proofs.Common.{◌≡◌, ◌≤◌, ◌++◌, List, []}
use Rattle.fx_outside.specs.Outside.{Files, SameFiles}
use Rattle.fx_seq.specs.Filling.{IsQuiet}
use Rattle.fx_seq.specs.declared.source.SourceFrame.{SourceFrame}
use Rattle.fx_pipe.specs.Moments.{all_of}
use Rattle.fx_pipe.specs.Reads.{AreRead, Knows, kept_size}
use Rattle.fx_pipe.specs.Blocks.{fetched_in}
use Rattle.fx_pipe.proofs.read.read_block.Given as goal

abbrev pub invariant-loop : goal.invariant-loop
invariant-loop g l =
    let lib = g.L.Library in
    let block = fetched_in l.fetched.items in
    record {
      read : (files : Files) (fs : List (List SourceFrame)) → (lib.tells → SameFiles files (lib.file l.fn.library)) → Knows l.schedule fs l.fn.reader
          → AreRead lib.tells files l.schedule (all_of fs) l.fn.reader.next block × Knows l.schedule (fs ++ block) l.reader;
      single : l.counter ≡ 0 → l.fetched.items ≡ [];
      most : l.schedule.ahead ≤ 1 → l.end ≤ 1;
      next : l.reader.next ≤ l.schedule.moments;
      few : kept_size l.schedule.uses.now l.reader.next l.reader.kept.items ≤ l.schedule.limit;
      quiet : IsQuiet (lib.faults l.fn.library) (lib.faults l.library) (lib.last l.fn.library) (lib.last l.library);
      later : lib.faults l.fn.library ≤ lib.faults l.library;
      same : lib.tells → SameFiles (lib.file l.fn.library) (lib.file l.library);
    }
