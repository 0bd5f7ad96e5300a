use Rattle.std.proofs.Common.{◌≡◌, ◌-ℤ◌, pos, arith, w64, to_z, of_z}
use Rattle.std.proofs.lemmas.Int.{ints}
use Rattle.fx_region.proofs.tiles.span.Goals as goal

pub returns-clause-end : goal.returns-clause-end
returns-clause-end c =
    let last : to_z w64 (of_z w64 (to_z w64 (of_z w64 c.args.high) -ℤ pos 1)) ≡ c.args.high -ℤ pos 1 = omega (arith, ints) in
    let value = rw last at c.tile_of-end.ensures.value in
    omega (arith, ints)
