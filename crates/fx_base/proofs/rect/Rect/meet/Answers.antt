use Rattle.std.proofs.Common.{sym, subst, arith}
use Rattle.std.proofs.lemmas.Int.{to_z-of_z}
use Rattle.fx_base.proofs.RectLemmas.{within-meet}
use Rattle.fx_base.specs.Rect.{IsUpTo}
use Rattle.fx_base.proofs.RectLaws.{IsUpTo-meet}
use Rattle.fx_base.proofs.rect.Rect.meet.Goals as goal

pub returns-clause-bounds : goal.returns-clause-bounds
returns-clause-bounds c = rw (← c.self.view_is, ← c.other.view_is) (grind (arith, to_z-of_z))

pub returns-clause-places : goal.returns-clause-places
returns-clause-places c x y = rw (returns-clause-bounds c) (within-meet c.args.self c.args.other x y)

pub returns-clause-reach : goal.returns-clause-reach
returns-clause-reach c n up_to = subst (IsUpTo n) (sym (returns-clause-bounds c)) (IsUpTo-meet n c.args.self c.args.other up_to)
