use Rattle.std.proofs.Common.{◌≡◌, rules, sym, subst}
use Rattle.fx_effect.specs.declared.action.Context.{Context}
use Rattle.fx_life.specs.Plugin.{MayRenderIn}
use Rattle.fx_shipped.specs.Shipped.{meaning_of}
use Rattle.fx_shipped.specs.declared.shipped.Shipped.{Shipped}
use Rattle.fx_rows_effects.proofs.asking.lived.Goals as goal

pub second_renders-outcome-requires-clause-may : goal.second_renders-outcome-requires-clause-may
second_renders-outcome-requires-clause-may g c = λ s there.
    let node = c.args.node.now in
    let image = c.args.part.now.image.now in
    let values = c.args.values.now in
    let inputs = c.args.inputs.now in
    let context : s.context ≡ node.context = search (rules, there) in
    subst (λ (o : Context). MayRenderIn o (meaning_of c.in_ok-running.running.effect).shape values inputs image.depth image.components) (sym context)
    (subst (λ (e : Shipped). MayRenderIn node.context (meaning_of e).shape values inputs image.depth image.components) (sym c.in_ok-running.ensures.effect) c.requires.may)
