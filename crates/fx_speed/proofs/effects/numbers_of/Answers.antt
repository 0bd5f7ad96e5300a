use Rattle.std.proofs.Common.{rules, ◌≡◌, ◌+◌, [], ◌∷◌, ◌++◌, take}
use Rattle.std.specs.List.{AllZip}
use Rattle.fx_effect.specs.Shape.{InRange}
use Rattle.fx_speed.proofs.EffectLemmas.{one_more}
use Rattle.fx_speed.proofs.effects.numbers_of.Goals as goal

pub loop-def-preserved : goal.loop-def-preserved
loop-def-preserved c =
    let so_far = c.loop-def.numbers.items in
    let kept : AllZip InRange (take (c.loop-def.def-index + 1) c.args.defs.now) (so_far ++ c.in-Some.number ∷ []) =
    one_more c.args.defs.now c.loop-def.def-index c.def-item.result so_far c.in-Some.number (search rules)
    c.def-item.is c.loop-def.invariant c.in-Some.ensures in
    let e : c.push.new.self.items ≡ so_far ++ c.in-Some.number ∷ [] = search rules in
    rw e kept
