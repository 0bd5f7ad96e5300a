use Rattle.std.proofs.Common.{ℤ, length, sym, subst, w64}
use Rattle.std.proofs.lemmas.Int.{to_z-of_z}
use mir.Val.{SFits}
use Rattle.fx_base.specs.Rect.{Holds}
use Rattle.fx_region.specs.declared.regions.Regions.{Regions}
use Rattle.fx_region.specs.Tables.{Has}
use Rattle.fx_scene.specs.Scenes.{Shot}
use Rattle.fx_scene.specs.Sites.{scene_nodes}
use Rattle.fx_tile.proofs.SetupLemmas.{has_output}
use Rattle.fx_tile.proofs.window.window_tile.Goals as goal

pub of-setup-requires-clause-regions : goal.of-setup-requires-clause-regions
of-setup-requires-clause-regions g c =
    record { made = record { at = c.args.frame; are = c.requires.regions }; holds = c.requires.holds }

pub found_tile-requires-clause-reached : goal.found_tile-requires-clause-reached
found_tile-requires-clause-reached g c =
    let fits : SFits w64 c.args.frame = c.ranges.frame in
    let scene = c.args.scene.now in
    let regions = c.args.regions.now in
    let setup = c.of-setup.result in
    let has = has_output (scene_nodes g.E.ImageEffect.meaning scene) (length scene.graph.nodes) scene.graph.output regions c.args.frame c.requires.regions in
    subst (λ (t : ℤ). Has setup.regions.now setup.scene.now.graph.output t) (sym (to_z-of_z w64 _ fits))
    (subst (λ (r : Regions). Has r setup.scene.now.graph.output c.args.frame) (sym c.of-setup.ensures.regions)
    (subst (λ (s : Shot _). Has regions s.graph.output c.args.frame) (sym c.of-setup.ensures.scene) has))

pub show-requires-clause-project : goal.show-requires-clause-project
show-requires-clause-project g c = λ x y here.
    subst (λ (s : Shot _). Holds s.graph.project x y) (sym c.of-setup.ensures.scene) (c.requires.project x y here)
