use Rattle.std.proofs.Common.{◌∙◌, ◌+◌, neg_ℤ, sym, subst, arith}
use Rattle.std.proofs.lemmas.Int.{ints}
use Rattle.fx_base.specs.Rect.{Holds, IsUpTo}
use Rattle.fx_base.proofs.RectLemmas.{Reaches-from_grown, Holds-grown, stretched_by}
use Rattle.fx_base.proofs.RectLaws.{IsUpTo-grown}
use Rattle.fx_base.proofs.rect.Rect.grow.Goals as goal

pub returns-clause-bounds : goal.returns-clause-bounds
returns-clause-bounds c = c.stretched.ensures ∙ stretched_by c.args.self _ _ _ _ (neg_ℤ c.args.h) (neg_ℤ c.args.v) c.args.h c.args.v (omega (arith, ints)) (omega (arith, ints)) (omega (arith, ints)) (omega (arith, ints))

pub returns-clause-places : goal.returns-clause-places
returns-clause-places c x y =
    let is = returns-clause-bounds c in (
      λ held. Reaches-from_grown c.args.self c.args.h c.args.v x y c.requires.h_low c.requires.v_low (subst (λ b. Holds b x y) is held),
      λ near. subst (λ b. Holds b x y) (sym is) (Holds-grown c.args.self c.args.h c.args.v x y near),
    )

pub returns-clause-reach : goal.returns-clause-reach
returns-clause-reach c n k h_few v_few up_to =
    subst (IsUpTo (n + k)) (sym (returns-clause-bounds c)) (IsUpTo-grown n k c.args.h c.args.v c.args.self c.requires.h_low c.requires.v_low h_few v_few up_to)
