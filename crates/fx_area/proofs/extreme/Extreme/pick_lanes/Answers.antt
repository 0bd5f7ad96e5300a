use Rattle.std.proofs.Common.{arith}
use Rattle.fx_area.proofs.ShortLaws.{least_at, most_at}
use Rattle.fx_area.proofs.extreme.Extreme.pick_lanes.Goals as goal
use Rattle.fx_area.proofs.extreme.Extreme.pick_lanes.Goals.{in-Least, in-Greatest}

pub returns : goal.returns
returns c i low =
    let a = c.args.a in
    let b = c.args.b in
    let first = c.fits-a.0 in
    let second = c.fits-b.0 in
    elim c.match-self.branch [
      | in-Least w ↦ rw (w.in-Least.is, w.result-is) (least_at a b i (omega arith) (omega arith))
      | in-Greatest w ↦ rw (w.in-Greatest.is, w.result-is) (most_at a b i (omega arith) (omega arith))
    ]
