use Rattle.std.proofs.Common.{◌≡◌, get_or, rules}
use Rattle.std.proofs.lemmas.List.Elements.{All-more}
use Rattle.fx_effect.specs.declared.steps.Step.{Step}
use Rattle.fx_effect.proofs.steps.kept_first.Goals as goal

pub loop-i-preserved : goal.loop-i-preserved
loop-i-preserved c =
    let steps = c.args.steps.now in
    let i = c.loop-i.i in
    let d : Step = record { depth = c.args.depth; components = c.args.components } in
    let deep : (get_or steps i d).depth ≡ c.args.depth = search rules in
    let samples : (get_or steps i d).components ≡ c.args.components = search rules in
    All-more (λ (s : Step). (s.depth ≡ c.args.depth) × (s.components ≡ c.args.components)) steps i d c.loop-i-test.true c.loop-i.invariant (deep, samples)
