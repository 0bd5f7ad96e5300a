use Rattle.std.proofs.Common.{rules, ◌≡◌, ◌≢◌, ℕ, ◌+◌, length, Err, Ok, Some, true, subst}
use Rattle.fx_seq.specs.declared.fault.SeqFault.TheVariants as seq
use Rattle.fx_pipe.specs.declared.put.PutStop.TheVariants as stop
use Rattle.fx_pipe.specs.Blocks.{Makes, Puts, SeesSome, fetched_in}
use Rattle.fx_pipe.specs.Ends.{Flows, state_of}
use Rattle.fx_pipe.proofs.FlowLemmas.{ends_at_memory, ends_at_put, ends_at_put_memory, round_step}
use Rattle.fx_pipe.proofs.rounds.round.Goals as goal

pub returns-in-Err-Failed-clause-ends : goal.returns-in-Err-Failed-clause-ends
returns-in-Err-Failed-clause-ends g c = λ start h.
    let l = g.L.Library in
    let d = g.D.Depot in
    let s = g.S.Stage in
    let see = state_of l.file l.faults l.last d.file d.faults d.last s.seen s.next in
    let line = c.args.line.now in
    let new = c.beside-put.new in
    let some : SeesSome (fetched_in line.fetched.items) (s.seen c.args.stage.now) (s.seen new.stage) = rw c.replace-to_make.ensures.value at c.beside-put.ensures.makes.some in
    let puts : Puts d.tells line.made.items (d.file c.args.depot.now) (d.file new.depot) (d.faults c.args.depot.now) (d.faults new.depot) (d.last c.args.depot.now) (d.last new.depot) (Err (stop.Failed c.in-Err-Failed.name)) =
    rw (c.replace-to_put.ensures.value, c.in-Err-Failed.is, c.in-Err-Failed.field-0-is) at c.beside-put.ensures.puts in
    ends_at_put l.tells d.tells (s.right (s.base c.args.stage.now)) c.args.schedule.now start (see c.args.library.now c.args.depot.now c.args.stage.now) (see new.library new.depot new.stage)
    line.reader line.fault (fetched_in line.fetched.items) line.next line.made.items h c.in-Err-Failed.name some puts

pub returns-in-Err-Memory-clause-ends : goal.returns-in-Err-Memory-clause-ends
returns-in-Err-Memory-clause-ends g c = λ start h.
    let l = g.L.Library in
    let d = g.D.Depot in
    let s = g.S.Stage in
    let see = state_of l.file l.faults l.last d.file d.faults d.last s.seen s.next in
    let line = c.args.line.now in
    let new = c.beside-put.new in
    let some : SeesSome (fetched_in line.fetched.items) (s.seen c.args.stage.now) (s.seen new.stage) = rw c.replace-to_make.ensures.value at c.beside-put.ensures.makes.some in
    let puts : Puts d.tells line.made.items (d.file c.args.depot.now) (d.file new.depot) (d.faults c.args.depot.now) (d.faults new.depot) (d.last c.args.depot.now) (d.last new.depot) (Err stop.Memory) =
    rw (c.replace-to_put.ensures.value, c.in-Err-Memory.is, c.in-Err-Memory.field-0-is) at c.beside-put.ensures.puts in
    ends_at_put_memory l.tells d.tells (s.right (s.base c.args.stage.now)) c.args.schedule.now start (see c.args.library.now c.args.depot.now c.args.stage.now) (see new.library new.depot new.stage)
    line.reader line.fault (fetched_in line.fetched.items) line.next line.made.items h some puts

pub returns-clause-ends : goal.returns-clause-ends
returns-clause-ends g c = λ start h.
    let l = g.L.Library in
    let d = g.D.Depot in
    let s = g.S.Stage in
    let see = state_of l.file l.faults l.last d.file d.faults d.last s.seen s.next in
    let line = c.args.line.now in
    let new = c.beside-put.new in
    let some : SeesSome (fetched_in line.fetched.items) (s.seen c.args.stage.now) (s.seen new.stage) = rw c.replace-to_make.ensures.value at c.beside-put.ensures.makes.some in
    let puts : Puts d.tells line.made.items (d.file c.args.depot.now) (d.file new.depot) (d.faults c.args.depot.now) (d.faults new.depot) (d.last c.args.depot.now) (d.last new.depot) (Ok tt) =
    rw (c.replace-to_put.ensures.value, c.in-Ok.is) at c.beside-put.ensures.puts in
    ends_at_memory l.tells d.tells (s.right (s.base c.args.stage.now)) c.args.schedule.now start (see c.args.library.now c.args.depot.now c.args.stage.now) (see new.library new.depot new.stage)
    line.reader line.fault (fetched_in line.fetched.items) line.next line.made.items h some puts

pub returns-then-not-wants_memory-clause-flows : goal.returns-then-not-wants_memory-clause-flows
returns-then-not-wants_memory-clause-flows g c = λ start h.
    let l = g.L.Library in
    let d = g.D.Depot in
    let s = g.S.Stage in
    let see = state_of l.file l.faults l.last d.file d.faults d.last s.seen s.next in
    let right = s.right (s.base c.args.stage.now) in
    let p = c.args.schedule.now in
    let line = c.args.line.now in
    let new = c.beside-put.new in
    let old = see c.args.library.now c.args.depot.now c.args.stage.now in
    let now = see new.library new.depot new.stage in
    let puts : Puts d.tells line.made.items old.put_files now.put_files old.put_faults now.put_faults old.put_last now.put_last (Ok tt) =
    rw (c.replace-to_put.ensures.value, c.in-Ok.is) at c.beside-put.ensures.puts in
    let makes : Makes right line.next (fetched_in line.fetched.items) new.made.items old.seen now.seen now.next true =
    rw (c.replace-to_make.ensures.value, c.if-made.true) at c.beside-put.ensures.makes in
    let none : new.fault ≢ Some seq.Memory = search rules in
    let count : length line.fetched.items ≡ c.len-count.result = search rules in
    let flows = round_step l.tells d.tells right p start old now line new.reader new.fault (fetched_in new.fetched.items) new.made.items
    h puts makes c.beside-put.ensures.reads c.beside-put.ensures.same none in
    subst (λ (n : ℕ). Flows l.tells d.tells right p start now new.reader new.fault (fetched_in new.fetched.items) (line.next + n) new.made.items) count flows
