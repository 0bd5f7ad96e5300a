use Rattle.std.proofs.Common.{refl, ◌∙◌}
use Rattle.fx_point.proofs.Quotients.{quotient_of, quotient_small}
use Rattle.fx_point.proofs.unpremult.byte_quotient.Goals as goal

pub returns-clause-value : goal.returns-clause-value
returns-clause-value c =
    rw (c.from.ensures, c.from-2.ensures, c.min-kept.ensures) refl
    ∙ quotient_of c.args.factor c.args.a c.args.c c.requires.factor c.requires.a

pub returns-clause-bound : goal.returns-clause-bound
returns-clause-bound c =
    rw (
      c.from.ensures,
      c.from-2.ensures,
      c.min-kept.ensures,
      quotient_of c.args.factor c.args.a c.args.c c.requires.factor c.requires.a,
    ) (quotient_small c.args.a c.args.c)
