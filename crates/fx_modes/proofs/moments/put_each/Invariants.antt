use Rattle.std.proofs.Common.{◌≡◌}
use Rattle.fx_pipe.specs.Ends.{state_of}
use Rattle.fx_modes.specs.Making.{MayMake, Plan, next_of, seen_by}
use Rattle.fx_modes.specs.Reels.{moments_in}
use Rattle.fx_modes.specs.Turns.{IsUnderWay}
use Rattle.fx_modes.proofs.moments.put_each.Given as goal

abbrev pub invariant-loop : goal.invariant-loop
invariant-loop g l =
    let lib = g.L.Library in
    let d = g.D.Depot in
    let see = state_of lib.file lib.faults lib.last d.file d.faults d.last seen_by next_of in
    record {
      written : l.making.scene.script.written ≡ l.fn.making.scene.script.written;
      way : (p : Plan) → moments_in p.reel ≡ l.moments → MayMake p l.uses 0 l.fn.making
          → IsUnderWay lib.tells d.tells p l.schedule (see l.fn.library l.fn.depot l.fn.making) (see l.library l.depot l.making) l.line l.making;
    }
