use Rattle.std.proofs.Common.{◌<◌, ◌≤◌, ◌∙◌, pos, ◌+ℤ◌, ◌-ℤ◌, arith, subst, sym, w64, FitsSigned}
use Rattle.std.proofs.lemmas.Int.{ints, to_z-of_z}
use Rattle.fx_image.proofs.ImageLaws.{fits_near}
use Rattle.fx_whole.proofs.CapacityLaws.{after_is, along, fits_after}
use Rattle.fx_whole.proofs.capacity.tiles_along.Goals as goal

pub offset-requires : goal.offset-requires
offset-requires c =
    let a : FitsSigned w64 c.args.low = c.ranges.low in
    let b : FitsSigned w64 c.args.high = c.ranges.high in
    let order = c.requires.some in
    let under = c.requires.high in
    let over = c.requires.low in
    let d : FitsSigned w64 (c.args.high -ℤ pos 1) = fits_near (c.args.high -ℤ pos 1) (omega (arith, ints, order, over)) (omega (arith, ints, under)) in
    let first = simp to_z-of_z at c.tile_of.ensures.value in
    let last = simp to_z-of_z at c.tile_of-end.ensures.value in
    let least = c.tile_of.ensures.side in
    let some : 0 < c.args.grid = omega (arith, least) in
    let low = c.tile_of.ensures.low in
    let top = c.tile_of.ensures.high in
    let bottom = c.tile_of-end.ensures.low in
    let high = c.tile_of-end.ensures.high in
    let e : FitsSigned w64 c.tile_of.result = fits_near c.tile_of.result low top in
    let f : FitsSigned w64 c.tile_of-end.result = fits_near c.tile_of-end.result bottom high in
    let h : FitsSigned w64 (c.tile_of-end.result +ℤ pos 1) = fits_after c.tile_of-end.result bottom high in
    let is = along c.args.grid c.args.low c.args.high c.tile_of.result c.tile_of-end.result some order first last low high in
    simp to_z-of_z is.order

pub returns-clause-value : goal.returns-clause-value
returns-clause-value c =
    let a : FitsSigned w64 c.args.low = c.ranges.low in
    let b : FitsSigned w64 c.args.high = c.ranges.high in
    let order = c.requires.some in
    let under = c.requires.high in
    let over = c.requires.low in
    let d : FitsSigned w64 (c.args.high -ℤ pos 1) = fits_near (c.args.high -ℤ pos 1) (omega (arith, ints, order, over)) (omega (arith, ints, under)) in
    let first = simp to_z-of_z at c.tile_of.ensures.value in
    let last = simp to_z-of_z at c.tile_of-end.ensures.value in
    let least = c.tile_of.ensures.side in
    let some : 0 < c.args.grid = omega (arith, least) in
    let low = c.tile_of.ensures.low in
    let top = c.tile_of.ensures.high in
    let bottom = c.tile_of-end.ensures.low in
    let high = c.tile_of-end.ensures.high in
    let e : FitsSigned w64 c.tile_of.result = fits_near c.tile_of.result low top in
    let f : FitsSigned w64 c.tile_of-end.result = fits_near c.tile_of-end.result bottom high in
    let h : FitsSigned w64 (c.tile_of-end.result +ℤ pos 1) = fits_after c.tile_of-end.result bottom high in
    let is = along c.args.grid c.args.low c.args.high c.tile_of.result c.tile_of-end.result some order first last low high in
    (simp to_z-of_z at c.offset.ensures)
    ∙ after_is c.args.grid c.args.low c.args.high c.tile_of.result c.tile_of-end.result first last

pub returns-clause-some : goal.returns-clause-some
returns-clause-some c =
    let a : FitsSigned w64 c.args.low = c.ranges.low in
    let b : FitsSigned w64 c.args.high = c.ranges.high in
    let order = c.requires.some in
    let under = c.requires.high in
    let over = c.requires.low in
    let d : FitsSigned w64 (c.args.high -ℤ pos 1) = fits_near (c.args.high -ℤ pos 1) (omega (arith, ints, order, over)) (omega (arith, ints, under)) in
    let first = simp to_z-of_z at c.tile_of.ensures.value in
    let last = simp to_z-of_z at c.tile_of-end.ensures.value in
    let least = c.tile_of.ensures.side in
    let some : 0 < c.args.grid = omega (arith, least) in
    let low = c.tile_of.ensures.low in
    let top = c.tile_of.ensures.high in
    let bottom = c.tile_of-end.ensures.low in
    let high = c.tile_of-end.ensures.high in
    let e : FitsSigned w64 c.tile_of.result = fits_near c.tile_of.result low top in
    let f : FitsSigned w64 c.tile_of-end.result = fits_near c.tile_of-end.result bottom high in
    let h : FitsSigned w64 (c.tile_of-end.result +ℤ pos 1) = fits_after c.tile_of-end.result bottom high in
    let is = along c.args.grid c.args.low c.args.high c.tile_of.result c.tile_of-end.result some order first last low high in
    subst (λ n. 0 < n) (sym (simp to_z-of_z at c.offset.ensures)) is.some

pub returns-clause-few : goal.returns-clause-few
returns-clause-few c =
    let a : FitsSigned w64 c.args.low = c.ranges.low in
    let b : FitsSigned w64 c.args.high = c.ranges.high in
    let order = c.requires.some in
    let under = c.requires.high in
    let over = c.requires.low in
    let d : FitsSigned w64 (c.args.high -ℤ pos 1) = fits_near (c.args.high -ℤ pos 1) (omega (arith, ints, order, over)) (omega (arith, ints, under)) in
    let first = simp to_z-of_z at c.tile_of.ensures.value in
    let last = simp to_z-of_z at c.tile_of-end.ensures.value in
    let least = c.tile_of.ensures.side in
    let some : 0 < c.args.grid = omega (arith, least) in
    let low = c.tile_of.ensures.low in
    let top = c.tile_of.ensures.high in
    let bottom = c.tile_of-end.ensures.low in
    let high = c.tile_of-end.ensures.high in
    let e : FitsSigned w64 c.tile_of.result = fits_near c.tile_of.result low top in
    let f : FitsSigned w64 c.tile_of-end.result = fits_near c.tile_of-end.result bottom high in
    let h : FitsSigned w64 (c.tile_of-end.result +ℤ pos 1) = fits_after c.tile_of-end.result bottom high in
    let is = along c.args.grid c.args.low c.args.high c.tile_of.result c.tile_of-end.result some order first last low high in
    subst (λ n. n ≤ 2147483649) (sym (simp to_z-of_z at c.offset.ensures)) is.few
