use Rattle.std.proofs.Common.{◌≡◌}
use Rattle.fx_pipe.specs.Ends.{FlowsIn, state_of}
use Rattle.fx_pipe.proofs.rounds.pipe.Given as goal

abbrev pub invariant-loop : goal.invariant-loop
invariant-loop g l =
    let lib = g.L.Library in
    let d = g.D.Depot in
    let s = g.S.Stage in
    let see = state_of lib.file lib.faults lib.last d.file d.faults d.last s.seen s.next in
    record {
      base : s.base l.stage ≡ s.base l.fn.stage;
      flows : FlowsIn lib.tells d.tells (s.right (s.base l.fn.stage)) l.schedule (see l.fn.library l.fn.depot l.fn.stage) (see l.library l.depot l.stage) l.line;
    }
