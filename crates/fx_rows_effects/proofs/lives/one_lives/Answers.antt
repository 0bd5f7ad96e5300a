use Rattle.std.proofs.Common.{◌≡◌, refl, rules, sym, subst}
use Rattle.fx_effect.specs.declared.action.Context.TheVariants.{Generator}
use Rattle.fx_life.specs.Plugin.{MayRenderIn}
use Rattle.fx_pixel.specs.declared.Components.{Components}
use Rattle.fx_pixel.specs.declared.Components.TheVariants.{Rgba}
use Rattle.fx_pixel.specs.declared.Depth.{Depth}
use Rattle.fx_pixel.specs.declared.Depth.TheVariants.{Byte}
use Rattle.fx_rows_effects.specs.Toy.{toy_shape}
use Rattle.fx_rows_effects.proofs.Renders.{may_in}
use Rattle.fx_rows_effects.proofs.lives.one_lives.Goals as goal

pub render-outcome-requires-clause-may : goal.render-outcome-requires-clause-may
render-outcome-requires-clause-may g c = λ s there.
    let image = c.args.part.now.image.now in
    let values = c.plain_values-values.result in
    let inputs = c.in_ok-inputs.inputs in
    let is : s.context ≡ Generator = search (rules, there) in
    subst (λ (d : Depth). MayRenderIn s.context toy_shape values inputs d image.components) (sym c.requires.depth)
    (subst (λ (k : Components). MayRenderIn s.context toy_shape values inputs Byte k) (sym c.requires.components)
    (may_in toy_shape values inputs Byte Rgba Generator s.context c.plain_values-values.ensures.lawful refl
    (search rules) (search rules) is))
