use Rattle.std.proofs.Common.{rules, ◌≢◌, length, true, Some, Ok, Err, refl}
use Rattle.fx_seq.specs.declared.fault.SeqFault.TheVariants as seq
use Rattle.fx_pipe.specs.declared.put.PutStop.TheVariants as stop
use Rattle.fx_pipe.specs.Blocks.{Makes, Puts, fetched_in}
use Rattle.fx_pipe.specs.Ends.{state_of}
use Rattle.fx_pipe.proofs.FlowLemmas.{ends_at_memory, ends_at_put, ends_at_put_memory}
use Rattle.fx_modes.specs.Making.{MayMake, next_of, seen_by}
use Rattle.fx_modes.specs.Moments.{IsMomentFile}
use Rattle.fx_modes.proofs.RoundLemmas.{round_flows, waiting_due, waiting_may}
use Rattle.fx_modes.proofs.TurnLemmas.{spare_may}
use Rattle.fx_modes.proofs.rounds.round.Goals as goal

pub beside-put-requires-clause-due : goal.beside-put-requires-clause-due
beside-put-requires-clause-due g c κs within =
    let l = g.L.Library in
    let d = g.D.Depot in
    let see = state_of l.file l.faults l.last d.file d.faults d.last seen_by next_of in
    let w = c.requires.way in
    rw c.replace-to_make.ensures.value
    (waiting_due l.tells d.tells w.0 c.args.schedule.now w.1 (see c.args.library.now c.args.depot.now c.args.making.now)
    c.args.line.now c.args.making.now w.2 refl)

pub beside-put-requires-clause-may : goal.beside-put-requires-clause-may
beside-put-requires-clause-may g c κs within =
    let l = g.L.Library in
    let d = g.D.Depot in
    let see = state_of l.file l.faults l.last d.file d.faults d.last seen_by next_of in
    let w = c.requires.way in (
      w.0,
      rw c.replace-to_make.ensures.value
          (waiting_may l.tells d.tells w.0 c.args.schedule.now w.1 (see c.args.library.now c.args.depot.now c.args.making.now)
          c.args.line.now c.args.making.now w.2 refl),
    )

pub returns-in-Err-Failed : goal.returns-in-Err-Failed
returns-in-Err-Failed g c =
    let l = g.L.Library in
    let d = g.D.Depot in
    let see = state_of l.file l.faults l.last d.file d.faults d.last seen_by next_of in
    let line = c.args.line.now in
    let old = c.args.making.now in
    let new = c.beside-put.new in
    record {
      moves =
          record {
            written = c.beside-put.ensures.written;
            way = λ p start w. tt;
            ends = λ p start w.
                let may : MayMake p c.args.schedule.now.uses.now (length (fetched_in line.fetched.items)) old =
                waiting_may l.tells d.tells p c.args.schedule.now start (see c.args.library.now c.args.depot.now old) line old w refl in
                let made : Makes (IsMomentFile p.reel) old.next (fetched_in line.fetched.items) new.made.items (seen_by old) (seen_by new.making) new.making.next c.beside-put.result.1 =
                rw c.replace-to_make.ensures.value at c.beside-put.ensures.makes p may in
                let puts : Puts d.tells line.made.items (d.file c.args.depot.now) (d.file new.depot) (d.faults c.args.depot.now) (d.faults new.depot) (d.last c.args.depot.now) (d.last new.depot) (Err (stop.Failed c.in-Err-Failed.name)) =
                rw (c.replace-to_put.ensures.value, c.in-Err-Failed.is, c.in-Err-Failed.field-0-is) at c.beside-put.ensures.puts in
                ends_at_put l.tells d.tells (IsMomentFile p.reel) c.args.schedule.now start (see c.args.library.now c.args.depot.now old)
                (see new.library new.depot new.making) line.reader line.fault (fetched_in line.fetched.items) line.next line.made.items w.flows
                c.in-Err-Failed.name made.some puts;
            not_done = λ is. cc;
          };
    }

pub returns-in-Err-Memory : goal.returns-in-Err-Memory
returns-in-Err-Memory g c =
    let l = g.L.Library in
    let d = g.D.Depot in
    let see = state_of l.file l.faults l.last d.file d.faults d.last seen_by next_of in
    let line = c.args.line.now in
    let old = c.args.making.now in
    let new = c.beside-put.new in
    record {
      moves =
          record {
            written = c.beside-put.ensures.written;
            way = λ p start w. tt;
            ends = λ p start w.
                let may : MayMake p c.args.schedule.now.uses.now (length (fetched_in line.fetched.items)) old =
                waiting_may l.tells d.tells p c.args.schedule.now start (see c.args.library.now c.args.depot.now old) line old w refl in
                let made : Makes (IsMomentFile p.reel) old.next (fetched_in line.fetched.items) new.made.items (seen_by old) (seen_by new.making) new.making.next c.beside-put.result.1 =
                rw c.replace-to_make.ensures.value at c.beside-put.ensures.makes p may in
                let puts : Puts d.tells line.made.items (d.file c.args.depot.now) (d.file new.depot) (d.faults c.args.depot.now) (d.faults new.depot) (d.last c.args.depot.now) (d.last new.depot) (Err stop.Memory) =
                rw (c.replace-to_put.ensures.value, c.in-Err-Memory.is, c.in-Err-Memory.field-0-is) at c.beside-put.ensures.puts in
                ends_at_put_memory l.tells d.tells (IsMomentFile p.reel) c.args.schedule.now start (see c.args.library.now c.args.depot.now old)
                (see new.library new.depot new.making) line.reader line.fault (fetched_in line.fetched.items) line.next line.made.items w.flows
                made.some puts;
            not_done = λ is. cc;
          };
    }

pub returns : goal.returns
returns g c =
    let l = g.L.Library in
    let d = g.D.Depot in
    let see = state_of l.file l.faults l.last d.file d.faults d.last seen_by next_of in
    let line = c.args.line.now in
    let old = c.args.making.now in
    let new = c.beside-put.new in
    record {
      moves =
          record {
            written = c.beside-put.ensures.written;
            way = λ p start w. tt;
            ends = λ p start w.
                let may : MayMake p c.args.schedule.now.uses.now (length (fetched_in line.fetched.items)) old =
                waiting_may l.tells d.tells p c.args.schedule.now start (see c.args.library.now c.args.depot.now old) line old w refl in
                let made : Makes (IsMomentFile p.reel) old.next (fetched_in line.fetched.items) new.made.items (seen_by old) (seen_by new.making) new.making.next c.beside-put.result.1 =
                rw c.replace-to_make.ensures.value at c.beside-put.ensures.makes p may in
                let puts : Puts d.tells line.made.items (d.file c.args.depot.now) (d.file new.depot) (d.faults c.args.depot.now) (d.faults new.depot) (d.last c.args.depot.now) (d.last new.depot) (Ok tt) =
                rw (c.replace-to_put.ensures.value, c.in-Ok.is) at c.beside-put.ensures.puts in
                ends_at_memory l.tells d.tells (IsMomentFile p.reel) c.args.schedule.now start (see c.args.library.now c.args.depot.now old)
                (see new.library new.depot new.making) line.reader line.fault (fetched_in line.fetched.items) line.next line.made.items w.flows
                made.some puts;
            not_done = λ is. cc;
          };
    }

pub returns-then-not-wants_memory : goal.returns-then-not-wants_memory
returns-then-not-wants_memory g c =
    let l = g.L.Library in
    let d = g.D.Depot in
    let see = state_of l.file l.faults l.last d.file d.faults d.last seen_by next_of in
    let line = c.args.line.now in
    let old = c.args.making.now in
    let new = c.beside-put.new in
    let none : new.fault ≢ Some seq.Memory = search rules in
    record {
      moves =
          record {
            written = c.beside-put.ensures.written;
            way = λ p start w.
                let now = see c.args.library.now c.args.depot.now old in
                let may : MayMake p c.args.schedule.now.uses.now (length (fetched_in line.fetched.items)) old =
                waiting_may l.tells d.tells p c.args.schedule.now start now line old w refl in
                let asked : MayMake p c.args.schedule.now.uses.now (length (fetched_in c.replace-to_make.result.items)) old = rw c.replace-to_make.ensures.value may in
                let makes : Makes (IsMomentFile p.reel) old.next (fetched_in line.fetched.items) new.made.items (seen_by old) (seen_by new.making) new.making.next true =
                rw (c.replace-to_make.ensures.value, c.if-made.true) at c.beside-put.ensures.makes p may in
                let puts : Puts d.tells line.made.items (d.file c.args.depot.now) (d.file new.depot) (d.faults c.args.depot.now) (d.faults new.depot) (d.last c.args.depot.now) (d.last new.depot) (Ok tt) =
                rw (c.replace-to_put.ensures.value, c.in-Ok.is) at c.beside-put.ensures.puts in
                record {
                  many = w.many;
                  may = spare_may p c.args.schedule.now.uses.now 0 new.making (record new.making { spare = new.spare })
                      (c.beside-put.ensures.may p asked c.if-made.true);
                  flows = round_flows l.tells d.tells p c.args.schedule.now start now line old w refl (see new.library new.depot new.making)
                      new.reader new.fault (fetched_in new.fetched.items) new.made.items puts makes c.beside-put.ensures.reads c.beside-put.ensures.same none;
                  fetched = λ one. absurd (c.requires.blocks one);
                  made = λ one. absurd (c.requires.blocks one);
                };
            ends = λ p start w. tt;
            not_done = tt;
          };
    }
