use Rattle.std.proofs.Common.{arith}
use Rattle.std.proofs.lemmas.Int.{ints, to_z-of_z}
use Rattle.fx_gen.proofs.Quotients.{square_of}
use Rattle.fx_gen.proofs.checker.Squares.square.Goals as goal

pub returns-then-place-lt8192-clause-value : goal.returns-then-place-lt8192-clause-value
returns-then-place-lt8192-clause-value c =
    let self = c.args.self.now in
    let fits = c.ranges.place in
    simp to_z-of_z (square_of self.size self.factor c.args.place c.requires (grind (arith, ints)) (grind (arith, ints)))
