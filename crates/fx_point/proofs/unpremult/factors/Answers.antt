use Rattle.std.proofs.Common.{◌<◌, length, arith}
use Rattle.fx_point.specs.Factors.{factor_of}
use Rattle.fx_point.proofs.Tables.{one_more, stays_long}
use Rattle.fx_point.proofs.unpremult.factors.Goals as goal

pub loop-a-preserved : goal.loop-a-preserved
loop-a-preserved c =
    let long = c.loop-a.invariant.long in
    let room : c.loop-a.a < length c.loop-a.factors = omega arith in
    record {
      long = stays_long c.loop-a.factors c.loop-a.a c.factor.result long;
      filled = one_more c.loop-a.factors c.loop-a.a c.factor.result factor_of room c.factor.ensures
          c.loop-a.invariant.filled;
    }
