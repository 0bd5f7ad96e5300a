use Rattle.std.proofs.Common.{◌∙◌, arith, w64, to_z}
use Rattle.std.proofs.lemmas.Int.{ints}
use Rattle.fx_base.proofs.GridLaws.{row_step}
use Rattle.fx_base.proofs.grid.Grid.add_row.Goals as goal

pub loop-i-preserved : goal.loop-i-preserved
loop-i-preserved c = record {
  low = omega (arith, ints);
  ahead =
      row_step c.args.self (to_z w64 c.loop-i.i-bits) _ _ _ _ _ c.tile.result c.loop-i.tiles.items c.push.new.self.items (omega (arith, ints)) (omega (arith, ints)) (omega (arith, ints)) (omega (arith, ints)) c.tile.ensures c.in_ok-push.ensures.items
      ∙ c.loop-i.invariant.ahead;
}
