use Rattle.std.proofs.Common.{◌∙◌, ◌+◌, ◌+ℤ◌, sym, ap, subst, arith}
use Rattle.std.proofs.lemmas.Int.{ints}
use Rattle.fx_base.specs.Rect.{IsUpTo, within}
use Rattle.fx_base.proofs.RectLemmas.{within-shifted, stretched_by}
use Rattle.fx_base.proofs.RectLaws.{IsUpTo-shifted}
use Rattle.fx_base.proofs.rect.Rect.shift.Goals as goal

pub returns-clause-bounds : goal.returns-clause-bounds
returns-clause-bounds c = c.stretched.ensures ∙ stretched_by c.args.self _ _ _ _ c.args.dx c.args.dy c.args.dx c.args.dy (omega (arith, ints)) (omega (arith, ints)) (omega (arith, ints)) (omega (arith, ints))

pub returns-clause-places : goal.returns-clause-places
returns-clause-places c x y =
    ap (λ b. within b (x +ℤ c.args.dx) (y +ℤ c.args.dy)) (returns-clause-bounds c) ∙ within-shifted c.args.self c.args.dx c.args.dy x y

pub returns-clause-reach : goal.returns-clause-reach
returns-clause-reach c n k columns rows up_to =
    subst (IsUpTo (n + k)) (sym (returns-clause-bounds c)) (IsUpTo-shifted n k c.args.dx c.args.dy c.args.self columns rows up_to)
