use Rattle.std.proofs.Common.{◌≡◌, arith, w64, to_z, of_z, inr}
use Rattle.std.proofs.lemmas.Int.{ints}
use Rattle.fx_base.proofs.GridLaws.{tile_made}
use Rattle.fx_base.proofs.grid.Grid.tile.Goals as goal

pub invariant_of-result : goal.invariant_of-result
invariant_of-result c = let h = c.self.invariant in inr (omega (arith, ints), omega (arith, ints))

pub returns : goal.returns
returns c =
    let column : to_z w64 (of_z w64 c.args.i) ≡ c.args.i = omega (arith, ints) in
    let row : to_z w64 (of_z w64 c.args.j) ≡ c.args.j = omega (arith, ints) in
    let left = rw column at c.edge-left.ensures.value in
    let bottom = rw row at c.edge-bottom.ensures.value in
    let side : c.self.inside.side ≡ c.args.self = c.self.view_is in
    tile_made c.args.self c.args.i c.args.j _ _ _ _ (omega (arith, ints)) (omega (arith, ints)) (omega (arith, ints)) (omega (arith, ints))
