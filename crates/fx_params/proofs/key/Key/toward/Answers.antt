use Rattle.std.proofs.Common.{◌≡◌, ◌+ℤ◌, to_z, of_z, w64, ◌∙◌, arith}
use Rattle.std.proofs.lemmas.Int.{ints, clamps}
use Rattle.fx_params.specs.Parameter.{between}
use Rattle.fx_params.proofs.Slope.{between_low, between_high, risen_is}
use Rattle.fx_params.proofs.key.Key.toward.Goals as goal

-- the value lies between those of two keys, so it fits
pub moved-requires : goal.moved-requires
moved-requires c =
    let a = c.args.self in
    let b = c.args.next in
    let is : a.value +ℤ c.share.result ≡ between a b c.args.frame = risen_is a b c.args.frame c.distance-rise.result c.distance-part.result c.distance-whole.result c.share.result (record { sfits = c.distance-rise.type_inv }) (record { sfits = c.distance-part.type_inv }) (record { sfits = c.distance-whole.type_inv }) (omega (arith, ints)) (omega (arith, ints)) (omega (arith, ints)) c.share.ensures in
    let low = between_low a b c.args.frame c.requires.from c.requires.to in
    let high = between_high a b c.args.frame c.requires.from c.requires.to in
    record { low = omega (arith, ints, clamps); high = omega (arith, ints, clamps) }

pub returns : goal.returns
returns c =
    let moved : to_z w64 (of_z w64 c.moved.result) ≡ c.args.self.value +ℤ c.share.result = omega (arith, ints) in
    moved ∙ risen_is c.args.self c.args.next c.args.frame c.distance-rise.result c.distance-part.result c.distance-whole.result c.share.result (record { sfits = c.distance-rise.type_inv }) (record { sfits = c.distance-part.type_inv }) (record { sfits = c.distance-whole.type_inv }) (omega (arith, ints)) (omega (arith, ints)) (omega (arith, ints)) c.share.ensures
