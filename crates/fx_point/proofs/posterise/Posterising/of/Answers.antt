use Rattle.std.proofs.Common.{◌<◌, length, arith, of_z, to_z, w64}
use Rattle.fx_point.specs.Posterise.{posterised}
use Rattle.fx_point.proofs.Tables.{one_more, stays_long}
use Rattle.fx_point.proofs.posterise.Posterising.of.Goals as goal

pub loop-c-preserved : goal.loop-c-preserved
loop-c-preserved c =
    let long = c.loop-c.invariant.long in
    let room : c.loop-c.c < length c.loop-c.table = omega arith in
    record {
      long = stays_long c.loop-c.table c.loop-c.c c.posterised.result long;
      filled = one_more c.loop-c.table c.loop-c.c c.posterised.result
          (posterised 255 (to_z w64 (of_z w64 c.args.levels))) room c.posterised.ensures c.loop-c.invariant.filled;
    }
