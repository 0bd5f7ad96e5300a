use Rattle.std.proofs.Common.{◌≡◌, ◌∙◌, ap, subst, refl, w64, [], ◌∷◌, Some}
use Rattle.std.proofs.lemmas.Int.{to_z-of_z}
use mir.Val.{SFits}
use Rattle.fx_pixel.specs.declared.Depth.{Depth}
use Rattle.fx_pixel.specs.declared.Components.{Components}
use Rattle.fx_effect.specs.Given.{Given}
use Rattle.fx_scene.specs.Scenes.{graph_shown, images_in}
use Rattle.fx_eval.specs.Setups.{setup_nodes}
use Rattle.fx_eval.specs.Inputs.{Adds, IsOne, blank}
use Rattle.fx_eval.proofs.WholeLemmas.{filled_picture}
use Rattle.fx_eval.proofs.picture.show.Goals as goal

pub copy_whole-requires-clause-depth : goal.copy_whole-requires-clause-depth
copy_whole-requires-clause-depth g c =
    ap (λ (a : Given). a.depth) (c.in_ok-add_frame.ensures (λ k. Some c.args.setup.now.graph.now.output) refl).is ∙ ap (λ (a : Given). a.depth) c.in_ok-inputs.ensures ∙ c.depth.ensures

pub copy_whole-requires-clause-components : goal.copy_whole-requires-clause-components
copy_whole-requires-clause-components g c =
    ap (λ (a : Given). a.components) (c.in_ok-add_frame.ensures (λ k. Some c.args.setup.now.graph.now.output) refl).is ∙ ap (λ (a : Given). a.components) c.in_ok-inputs.ensures ∙ c.in_ok-vec.ensures.items ∙ ap (λ (k : Components). k ∷ []) c.components.ensures

pub returns : goal.returns
returns g c =
    let fits : SFits w64 c.args.frame = c.ranges.frame in
    let setup = c.args.setup.now in
    let m = g.E.ImageEffect.meaning in
    let nodes = setup_nodes m setup in
    let old = c.args.image.now in
    let e : c.in_ok-inputs.inputs ≡ blank old.depth (old.components ∷ []) = c.in_ok-inputs.ensures ∙ ap (λ (d : Depth). blank d c.in_ok-vec.field-0.items) c.depth.ensures ∙ ap (blank old.depth) (c.in_ok-vec.ensures.items ∙ ap (λ (k : Components). k ∷ []) c.components.ensures) in
    let adds = subst (λ (a : Given). Adds nodes (λ k. Some setup.graph.now.output) (IsOne 0 c.args.frame) a c.add_frame.new.inputs) e (simp to_z-of_z at (c.in_ok-add_frame.ensures (λ k. Some setup.graph.now.output) refl)) in
    filled_picture m (graph_shown setup.graph.now) (images_in setup.store.now) c.args.frame old c.copy_whole.new.image c.add_frame.new.inputs c.requires.setup.nodes
    c.requires.rect c.requires.depth c.requires.components adds (simp to_z-of_z at c.copy_whole.ensures)
