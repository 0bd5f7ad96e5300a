use Rattle.std.proofs.Common.{rules, ◌≡◌, ◌≢◌, ◌≤◌, [], length, true, Some, Ok, Err, refl, ap, arith}
use Rattle.fx_seq.specs.declared.fault.SeqFault.TheVariants as seq
use Rattle.fx_pipe.specs.declared.put.PutStop.TheVariants as stop
use Rattle.fx_pipe.specs.Blocks.{Puts, fetched_in}
use Rattle.fx_pipe.specs.Ends.{state_of}
use Rattle.fx_modes.specs.Making.{MayMake, next_of, seen_by}
use Rattle.fx_modes.specs.Moments.{IsMomentFile}
use Rattle.fx_modes.proofs.TurnLemmas.{block_due, block_few, flows_now, not_made, not_read, put_all, put_failed, put_memory, put_quiet, spare_may}
use Rattle.fx_modes.proofs.moments.turn.Goals as goal

pub make_block-made-requires-clause-due : goal.make_block-made-requires-clause-due
make_block-made-requires-clause-due g c κs within =
    let l = g.L.Library in
    let d = g.D.Depot in
    let w = c.requires.way in
    let old = state_of l.file l.faults l.last d.file d.faults d.last seen_by next_of c.args.library.now c.args.depot.now c.args.making.now in
    let line = c.args.line.now in
    let new = c.read_on.new in
    let none : new.fault ≢ Some seq.Memory = search rules in
    block_due l.tells d.tells (IsMomentFile w.0.reel) c.args.schedule.now w.1 old line.reader new.reader line.fault new.fault
    (fetched_in new.fetched.items) old.next (l.file new.library) (l.faults new.library) (l.last new.library)
    (flows_now l.tells d.tells w.0 c.args.schedule.now w.1 old line c.args.making.now w.2 c.requires.single) c.read_on.ensures.reads c.read_on.ensures.same none

pub make_block-made-requires-clause-may : goal.make_block-made-requires-clause-may
make_block-made-requires-clause-may g c κs within =
    let l = g.L.Library in
    let d = g.D.Depot in
    let w = c.requires.way in
    let old = state_of l.file l.faults l.last d.file d.faults d.last seen_by next_of c.args.library.now c.args.depot.now c.args.making.now in
    let line = c.args.line.now in
    let new = c.read_on.new in
    let none : new.fault ≢ Some seq.Memory = search rules in
    let few = block_few l.tells d.tells (IsMomentFile w.0.reel) c.args.schedule.now w.1 old line.reader new.reader line.fault new.fault
    (fetched_in new.fetched.items) old.next (l.file new.library) (l.faults new.library) (l.last new.library)
    (flows_now l.tells d.tells w.0 c.args.schedule.now w.1 old line c.args.making.now w.2 c.requires.single) c.read_on.ensures.reads c.read_on.ensures.same none in
    let many = w.2.many in
    (w.0, record { plan = w.2.may.plan; uses_are = w.2.may.uses_are; few = omega (arith, few, many); making = w.2.may.making })

pub returns-then-not-made-clause-moves : goal.returns-then-not-made-clause-moves
returns-then-not-made-clause-moves g c =
    record {
      written = c.make_block-made.ensures.written;
      way = λ p start w. tt;
      ends = λ p start w.
          let l = g.L.Library in
          let d = g.D.Depot in
          let right = IsMomentFile p.reel in
          let see = state_of l.file l.faults l.last d.file d.faults d.last seen_by next_of in
          let old = see c.args.library.now c.args.depot.now c.args.making.now in
          let line = c.args.line.now in
          let read = c.read_on.new in
          let block = fetched_in read.fetched.items in
          let none : read.fault ≢ Some seq.Memory = search rules in
          let h = flows_now l.tells d.tells p c.args.schedule.now start old line c.args.making.now w c.requires.single in
          let few = block_few l.tells d.tells right c.args.schedule.now start old line.reader read.reader line.fault read.fault block old.next
          (l.file read.library) (l.faults read.library) (l.last read.library) h c.read_on.ensures.reads c.read_on.ensures.same none in
          let many = w.many in
          let may : MayMake p c.args.schedule.now.uses.now (length block) c.args.making.now =
          record { plan = w.may.plan; uses_are = w.may.uses_are; few = omega (arith, few, many); making = w.may.making } in
          let new = c.make_block-made.new in
          let makes = c.make_block-made.ensures.makes p may in
          not_made l.tells d.tells right c.args.schedule.now start old line.reader read.reader line.fault read.fault block old.next
          (l.file read.library) (l.faults read.library) (l.last read.library) h c.read_on.ensures.reads c.read_on.ensures.same none
          new.made.items (seen_by new.self) new.self.next c.make_block-made.result makes;
      not_done = λ is. cc;
    }

pub returns-in-Err-Failed-clause-moves : goal.returns-in-Err-Failed-clause-moves
returns-in-Err-Failed-clause-moves g c =
    record {
      written = c.make_block-made.ensures.written;
      way = λ p start w. tt;
      ends = λ p start w.
          let l = g.L.Library in
          let d = g.D.Depot in
          let right = IsMomentFile p.reel in
          let see = state_of l.file l.faults l.last d.file d.faults d.last seen_by next_of in
          let old = see c.args.library.now c.args.depot.now c.args.making.now in
          let line = c.args.line.now in
          let read = c.read_on.new in
          let block = fetched_in read.fetched.items in
          let none : read.fault ≢ Some seq.Memory = search rules in
          let h = flows_now l.tells d.tells p c.args.schedule.now start old line c.args.making.now w c.requires.single in
          let few = block_few l.tells d.tells right c.args.schedule.now start old line.reader read.reader line.fault read.fault block old.next
          (l.file read.library) (l.faults read.library) (l.last read.library) h c.read_on.ensures.reads c.read_on.ensures.same none in
          let many = w.many in
          let may : MayMake p c.args.schedule.now.uses.now (length block) c.args.making.now =
          record { plan = w.may.plan; uses_are = w.may.uses_are; few = omega (arith, few, many); making = w.may.making } in
          let new = c.make_block-made.new in
          let makes = c.make_block-made.ensures.makes p may in
          let all : c.make_block-made.result ≡ true = search rules in
          let depot = c.put_block.new.depot in
          let puts : Puts d.tells new.made.items (d.file c.args.depot.now) (d.file depot) (d.faults c.args.depot.now) (d.faults depot) (d.last c.args.depot.now) (d.last depot) (Err (stop.Failed c.in-Err-Failed.name)) =
          rw (c.replace-files.ensures.value, c.in-Err-Failed.is, c.in-Err-Failed.field-0-is) at c.put_block.ensures.puts in
          put_failed l.tells d.tells right c.args.schedule.now start old line.reader read.reader line.fault read.fault block old.next
          (l.file read.library) (l.faults read.library) (l.last read.library) h c.read_on.ensures.reads c.read_on.ensures.same none
          new.made.items (seen_by new.self) new.self.next c.make_block-made.result makes all (d.file depot) (d.faults depot) (d.last depot) c.in-Err-Failed.name puts;
      not_done = λ is. cc;
    }

pub returns-in-Err-Failed-clause-quiet : goal.returns-in-Err-Failed-clause-quiet
returns-in-Err-Failed-clause-quiet g c = λ p start w.
    let l = g.L.Library in
    let d = g.D.Depot in
    let right = IsMomentFile p.reel in
    let see = state_of l.file l.faults l.last d.file d.faults d.last seen_by next_of in
    let old = see c.args.library.now c.args.depot.now c.args.making.now in
    let line = c.args.line.now in
    let read = c.read_on.new in
    let block = fetched_in read.fetched.items in
    let none : read.fault ≢ Some seq.Memory = search rules in
    let h = flows_now l.tells d.tells p c.args.schedule.now start old line c.args.making.now w c.requires.single in
    let few = block_few l.tells d.tells right c.args.schedule.now start old line.reader read.reader line.fault read.fault block old.next
    (l.file read.library) (l.faults read.library) (l.last read.library) h c.read_on.ensures.reads c.read_on.ensures.same none in
    let many = w.many in
    let may : MayMake p c.args.schedule.now.uses.now (length block) c.args.making.now =
    record { plan = w.may.plan; uses_are = w.may.uses_are; few = omega (arith, few, many); making = w.may.making } in
    let new = c.make_block-made.new in
    let makes = c.make_block-made.ensures.makes p may in
    let all : c.make_block-made.result ≡ true = search rules in
    let depot = c.put_block.new.depot in
    let puts : Puts d.tells new.made.items (d.file c.args.depot.now) (d.file depot) (d.faults c.args.depot.now) (d.faults depot) (d.last c.args.depot.now) (d.last depot) (Err (stop.Failed c.in-Err-Failed.name)) =
    rw (c.replace-files.ensures.value, c.in-Err-Failed.is, c.in-Err-Failed.field-0-is) at c.put_block.ensures.puts in
    let single = c.requires.single in
    let few_ahead : c.args.schedule.now.ahead ≤ 1 = omega (arith, single) in
    put_quiet l.tells d.tells right c.args.schedule.now start old line.reader read.reader line.fault read.fault block old.next
    (l.file read.library) (l.faults read.library) (l.last read.library) h c.read_on.ensures.reads c.read_on.ensures.same none
    new.made.items (seen_by new.self) new.self.next c.make_block-made.result makes all read.fetched.items (ap fetched_in) (c.read_on.ensures.single few_ahead)
    (d.file depot) c.in-Err-Failed.name puts.leaves

pub returns-clause-moves : goal.returns-clause-moves
returns-clause-moves g c =
    record {
      written = c.make_block-made.ensures.written;
      way = λ p start w. tt;
      ends = λ p start w.
          let l = g.L.Library in
          let d = g.D.Depot in
          let right = IsMomentFile p.reel in
          let see = state_of l.file l.faults l.last d.file d.faults d.last seen_by next_of in
          let old = see c.args.library.now c.args.depot.now c.args.making.now in
          let line = c.args.line.now in
          let read = c.read_on.new in
          let block = fetched_in read.fetched.items in
          let none : read.fault ≢ Some seq.Memory = search rules in
          let h = flows_now l.tells d.tells p c.args.schedule.now start old line c.args.making.now w c.requires.single in
          let few = block_few l.tells d.tells right c.args.schedule.now start old line.reader read.reader line.fault read.fault block old.next
          (l.file read.library) (l.faults read.library) (l.last read.library) h c.read_on.ensures.reads c.read_on.ensures.same none in
          let many = w.many in
          let may : MayMake p c.args.schedule.now.uses.now (length block) c.args.making.now =
          record { plan = w.may.plan; uses_are = w.may.uses_are; few = omega (arith, few, many); making = w.may.making } in
          let new = c.make_block-made.new in
          let makes = c.make_block-made.ensures.makes p may in
          let all : c.make_block-made.result ≡ true = search rules in
          let depot = c.put_block.new.depot in
          let puts : Puts d.tells new.made.items (d.file c.args.depot.now) (d.file depot) (d.faults c.args.depot.now) (d.faults depot) (d.last c.args.depot.now) (d.last depot) (Err stop.Memory) =
          rw (c.replace-files.ensures.value, c.in-Err-Memory.is, c.in-Err-Memory.field-0-is) at c.put_block.ensures.puts in
          put_memory l.tells d.tells right c.args.schedule.now start old line.reader read.reader line.fault read.fault block old.next
          (l.file read.library) (l.faults read.library) (l.last read.library) h c.read_on.ensures.reads c.read_on.ensures.same none
          new.made.items (seen_by new.self) new.self.next c.make_block-made.result makes all (d.file depot) (d.faults depot) (d.last depot) puts;
      not_done = λ is. cc;
    }

pub returns-in-Ok-clause-moves : goal.returns-in-Ok-clause-moves
returns-in-Ok-clause-moves g c =
    record {
      written = c.make_block-made.ensures.written;
      way = λ p start w.
          let l = g.L.Library in
          let d = g.D.Depot in
          let right = IsMomentFile p.reel in
          let see = state_of l.file l.faults l.last d.file d.faults d.last seen_by next_of in
          let old = see c.args.library.now c.args.depot.now c.args.making.now in
          let line = c.args.line.now in
          let read = c.read_on.new in
          let block = fetched_in read.fetched.items in
          let none : read.fault ≢ Some seq.Memory = search rules in
          let h = flows_now l.tells d.tells p c.args.schedule.now start old line c.args.making.now w c.requires.single in
          let few = block_few l.tells d.tells right c.args.schedule.now start old line.reader read.reader line.fault read.fault block old.next
          (l.file read.library) (l.faults read.library) (l.last read.library) h c.read_on.ensures.reads c.read_on.ensures.same none in
          let many = w.many in
          let may : MayMake p c.args.schedule.now.uses.now (length block) c.args.making.now =
          record { plan = w.may.plan; uses_are = w.may.uses_are; few = omega (arith, few, many); making = w.may.making } in
          let new = c.make_block-made.new in
          let makes = c.make_block-made.ensures.makes p may in
          let all : c.make_block-made.result ≡ true = search rules in
          let depot = c.put_block.new.depot in
          let puts : Puts d.tells new.made.items (d.file c.args.depot.now) (d.file depot) (d.faults c.args.depot.now) (d.faults depot) (d.last c.args.depot.now) (d.last depot) (Ok tt) =
          rw (c.replace-files.ensures.value, c.in-Ok.is) at c.put_block.ensures.puts in
          let flows = put_all l.tells d.tells right c.args.schedule.now start old line.reader read.reader line.fault read.fault block old.next
          (l.file read.library) (l.faults read.library) (l.last read.library) h c.read_on.ensures.reads c.read_on.ensures.same none
          new.made.items (seen_by new.self) new.self.next c.make_block-made.result makes all (d.file depot) (d.faults depot) (d.last depot) puts in
          let emptied = c.make_block-made.ensures.emptied all in
          let made : c.replace-files.new.dest.items ≡ [] = search rules in
          record {
            many = w.many;
            may = spare_may p c.args.schedule.now.uses.now 0 new.self (record new.self { spare = c.put_block.new.spare }) (c.make_block-made.ensures.may p may all);
            flows = rw (emptied, made) flows;
            fetched = λ one. emptied;
            made = λ one. made;
          };
      ends = λ p start w. tt;
      not_done = tt;
    }

pub returns-then-wants_memory-clause-moves : goal.returns-then-wants_memory-clause-moves
returns-then-wants_memory-clause-moves g c =
    record {
      written = refl;
      way = λ p start w. tt;
      ends = λ p start w.
          let l = g.L.Library in
          let d = g.D.Depot in
          let right = IsMomentFile p.reel in
          let old = state_of l.file l.faults l.last d.file d.faults d.last seen_by next_of c.args.library.now c.args.depot.now c.args.making.now in
          let line = c.args.line.now in
          let read = c.read_on.new in
          not_read l.tells d.tells right c.args.schedule.now start old line.reader read.reader line.fault read.fault (fetched_in read.fetched.items) old.next
          (l.file read.library) (l.faults read.library) (l.last read.library)
          (flows_now l.tells d.tells p c.args.schedule.now start old line c.args.making.now w c.requires.single) c.read_on.ensures.reads c.read_on.ensures.same [];
      not_done = λ is. cc;
    }
