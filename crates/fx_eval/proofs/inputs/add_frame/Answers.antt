use Rattle.std.proofs.Common.{refl, ◌∙◌, sym, ap, w64, List, [], ◌++◌, map}
use Rattle.std.proofs.lemmas.Int.{to_z-of_z}
use Rattle.std.proofs.lemmas.Result.{on_ok_weaker}
use Rattle.std.specs.Arc.{arc_value}
use Rattle.std.specs.Option.{option_copied, option_map}
use Rattle.std.specs.declared.alloc.Global.{Global}
use Rattle.std.specs.declared.sync.Arc.{Arc}
use mir.Val.{SFits}
use Rattle.fx_image.specs.Stored.{Stored, image_of}
use Rattle.fx_scene.specs.Scenes.{graph_shown, images_in, shown_frame}
use Rattle.fx_scene.specs.Sites.{area_shown, source_of}
use Rattle.fx_scene.proofs.SiteLemmas.{effect_in, shown_area, shown_some, source_is}
use Rattle.fx_seq.specs.Held.{held}
use Rattle.fx_eval.specs.Setups.{setup_nodes}
use Rattle.fx_eval.specs.Inputs.{piece_of}
use Rattle.fx_eval.proofs.PieceLemmas.{images_add, source_add, source_none}
use Rattle.fx_eval.proofs.inputs.add_frame.Goals as goal

pub returns-in-None : goal.returns-in-None
returns-in-None g c node is =
    let fits : SFits w64 c.args.f = c.ranges.f in
    let setup = c.args.setup.now in
    let m = g.E.ImageEffect.meaning in
    let e = c.in-Source.source in
    let s = source_of (images_in setup.store.now) c.args.m e in
    let stands = source_is m (graph_shown setup.graph.now) (images_in setup.store.now) c.args.m e c.in-Source.ensures in
    let named = shown_frame e.first e.last e.hold c.args.f in
    let none_shown = sym (simp to_z-of_z at c.image_shown.ensures) ∙ ap option_copied c.in-None.is in
    source_none (setup_nodes m setup) c.requires.setup.nodes node c.args.c c.args.m c.args.f s c.args.inputs.now is stands
    (sym (shown_area (held setup.store.now c.args.m) s named refl) ∙ ap area_shown none_shown)

pub returns-in-Some : goal.returns-in-Some
returns-in-Some g c node is =
    let fits : SFits w64 c.args.f = c.ranges.f in
    let setup = c.args.setup.now in
    let m = g.E.ImageEffect.meaning in
    let e = c.in-Source.source in
    let image = c.in-Some.image.now in
    let s = source_of (images_in setup.store.now) c.args.m e in
    let stands = source_is m (graph_shown setup.graph.now) (images_in setup.store.now) c.args.m e c.in-Source.ensures in
    let named = shown_frame e.first e.last e.hold c.args.f in
    let some = shown_some (held setup.store.now c.args.m) named image (sym (simp to_z-of_z at c.image_shown.ensures) ∙ ap option_copied c.in-Some.is) in
    on_ok_weaker c.add_source.result (λ made. source_add (setup_nodes m setup) c.requires.setup.nodes node c.args.c c.args.m c.args.f some.0 s image e.depth e.components c.args.inputs.now c.add_source.new.inputs is stands
    refl refl some.1 (ap (option_map image_of) some.2) made) (simp to_z-of_z at c.add_source.ensures)

pub returns-in-Effect : goal.returns-in-Effect
returns-in-Effect g c node is =
    let fits : SFits w64 c.args.f = c.ranges.f in
    let setup = c.args.setup.now in
    let m = g.E.ImageEffect.meaning in
    let nodes = setup_nodes m setup in
    let stands = effect_in m (graph_shown setup.graph.now) (images_in setup.store.now) c.args.m c.in-Effect.field-0 c.in-Effect.ensures.0 c.in-Effect.ensures.1 in
    let right = c.requires.whole c.args.m c.args.f c.made_of.result.now (simp to_z-of_z at c.made_of.ensures) in
    on_ok_weaker c.add_images.result (λ made. images_add nodes node c.args.c c.args.m c.args.f _ c.made_of.result.now c.args.inputs.now c.add_images.new.inputs is stands right
    (made ∙ ap (λ (images : List (Arc Stored Global)). record c.args.inputs.now { pieces = c.args.inputs.now.pieces ++ map (piece_of c.args.c c.args.f []) (map arc_value images) }) c.as_slice-images.ensures.value)) (simp to_z-of_z at c.add_images.ensures)
