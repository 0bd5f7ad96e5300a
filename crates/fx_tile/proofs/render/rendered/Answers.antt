use Rattle.std.proofs.Common.{sym, subst, w64, All, ℕ, ℤ, IfOk}
use Rattle.std.specs.Arc.{arc_value}
use Rattle.std.proofs.lemmas.Int.{to_z-of_z}
use mir.Val.{SFits}
use Rattle.fx_region.specs.declared.ends.Need.{Need}
use Rattle.fx_scene.specs.Right.{IsTile}
use Rattle.fx_scene.specs.Sites.{scene_nodes}
use Rattle.fx_tile.specs.Setups.{AreNeeds, IsReady, IsRenderable}
use Rattle.fx_tile.proofs.SetupLemmas.{is_no_source}
use Rattle.fx_tile.proofs.render.rendered.Goals as goal

pub unreachable-requires : goal.unreachable-requires
unreachable-requires g c =
    is_no_source g.E.ImageEffect.meaning g.E.Catalogue.number_of c.args.setup.now c.requires.setup c.args.place c.in-Source.field-0 c.requires.renderable.effect c.in-Source.ensures
    c.requires.renderable.there

pub effect_rendered-requires-clause-renderable : goal.effect_rendered-requires-clause-renderable
effect_rendered-requires-clause-renderable g c =
    let fits : SFits w64 c.args.frame = c.ranges.frame in
    subst (λ (t : ℤ). IsRenderable g.E.ImageEffect.meaning c.args.setup.now c.in-Effect.node.place t c.args.region) (sym (to_z-of_z w64 _ fits))
    (subst (λ (k : ℕ). IsRenderable g.E.ImageEffect.meaning c.args.setup.now k c.args.frame c.args.region) (sym c.in-Effect.ensures.0) c.requires.renderable)

pub effect_rendered-requires-clause-needs : goal.effect_rendered-requires-clause-needs
effect_rendered-requires-clause-needs g c =
    let fits : SFits w64 c.args.frame = c.ranges.frame in
    subst (λ (t : ℤ). AreNeeds g.E.ImageEffect.meaning c.args.setup.now c.in-Effect.node.place t c.args.region c.args.needs.now) (sym (to_z-of_z w64 _ fits))
    (subst (λ (k : ℕ). AreNeeds g.E.ImageEffect.meaning c.args.setup.now k c.args.frame c.args.region c.args.needs.now) (sym c.in-Effect.ensures.0) c.requires.needs)

pub effect_rendered-requires-clause-ready : goal.effect_rendered-requires-clause-ready
effect_rendered-requires-clause-ready g c =
    subst (λ (k : ℕ). All (λ (need : Need). IsReady g.E.ImageEffect.meaning c.args.setup.now k need.end) c.args.needs.now) (sym c.in-Effect.ensures.0) c.requires.ready

pub returns-clause-tile : goal.returns-clause-tile
returns-clause-tile g c =
    let fits : SFits w64 c.args.frame = c.ranges.frame in
    let nodes = scene_nodes g.E.ImageEffect.meaning c.args.setup.now.scene.now in
    let Made = λ (n : ℕ) (t : ℤ). IfOk c.effect_rendered.result (λ image. IsTile nodes n t c.args.region (arc_value image)) in
    subst (λ (n : ℕ). Made n c.args.frame) c.in-Effect.ensures.0
    (subst (λ (t : ℤ). Made c.in-Effect.node.place t) (to_z-of_z w64 _ fits) c.effect_rendered.ensures.tile)
