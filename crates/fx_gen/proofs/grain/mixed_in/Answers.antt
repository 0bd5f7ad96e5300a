use Rattle.std.proofs.lemmas.Int.{to_z-of_z}
use Rattle.fx_gen.proofs.Remainders.{mixed_is}
use Rattle.fx_gen.proofs.grain.mixed_in.Goals as goal

pub returns-clause-value : goal.returns-clause-value
returns-clause-value c =
    let seed = c.ranges.seed in
    let x = c.ranges.x in
    let y = c.ranges.y in
    let frame = c.ranges.frame in
    rw (c.wrapped.ensures.value, c.wrapped-2.ensures.value, c.wrapped-3.ensures.value)
    (simp to_z-of_z (mixed_is c.args.seed c.args.x c.args.y c.args.frame c.requires.0))
