use Rattle.std.proofs.Common.{◌∙◌, ℤ, List, All, arith, length, map, sym, subst, rules, w64, to_z, of_z}
use Rattle.std.proofs.lemmas.Int.{to_z-of_z}
use mir.Val.{SFits}
use Rattle.fx_base.specs.Bounds.{Bounds}
use Rattle.fx_region.specs.Ends.{end_of}
use Rattle.fx_region.specs.declared.regions.Regions.{Regions}
use Rattle.fx_region.specs.Tables.{Has}
use Rattle.fx_scene.specs.Scenes.{Shot, images_in, picture}
use Rattle.fx_scene.specs.Sites.{scene_nodes}
use Rattle.fx_tile.specs.declared.share.Shared.{Shared}
use Rattle.fx_tile.specs.Moments.{AreBandsOf, CountsTiles, IsFree, IsWindowTile, ShowEach}
use Rattle.fx_tile.specs.Setups.{HoldsAt}
use Rattle.fx_tile.proofs.BatchLemmas.{are_bands, bands_of, is_picture}
use Rattle.fx_tile.proofs.SeatLemmas.{nothing_kept}
use Rattle.fx_tile.proofs.SetupLemmas.{has_output}
use Rattle.fx_tile.proofs.moment.render_moment.Goals as goal

pub of-setup-requires-clause-regions : goal.of-setup-requires-clause-regions
of-setup-requires-clause-regions g c =
    let fits : SFits w64 c.args.frame = c.ranges.frame in
    record {
      made = record { at = to_z w64 (of_z w64 c.args.frame); are = c.in-Ok.ensures.regions };
      holds = subst (λ (t : ℤ). HoldsAt g.E.ImageEffect.meaning c.args.scene.now t) (sym (to_z-of_z w64 _ fits)) c.requires.holds;
    }

pub draw_bands-requires-clause-tiles : goal.draw_bands-requires-clause-tiles
draw_bands-requires-clause-tiles g c κs within =
    let t = to_z w64 (of_z w64 c.args.frame) in
    let scene = c.args.scene.now in
    let setup = c.of-setup.result in
    let regions = c.in-Ok.ground.regions in
    let tiles = c.deref.result.now in
    let has = has_output (scene_nodes g.E.ImageEffect.meaning scene) (length scene.graph.nodes) scene.graph.output regions t c.in-Ok.ensures.regions in
    record {
      setup_is = search rules;
      reached =
          subst (λ (r : Regions). Has r setup.scene.now.graph.output t) (sym c.of-setup.ensures.regions)
          (subst (λ (s : Shot _). Has regions s.graph.output t) (sym c.of-setup.ensures.scene) has);
      each =
          subst (λ (s : Shot _). All (IsWindowTile s.graph.project) tiles) (sym c.of-setup.ensures.scene)
          (subst (λ (ts : List Bounds). All (IsWindowTile c.args.scene.now.graph.project) ts) (sym c.deref.ensures.value) c.in-Ok.ensures.each);
      few = search rules;
    }

pub draw_bands-requires-clause-workers : goal.draw_bands-requires-clause-workers
draw_bands-requires-clause-workers g c κs within = (
  c.requires.workers.0,
  subst (λ (s : Shared _). All (IsFree s) c.args.seats.items) (sym c.of-setup.ensures.shared) c.requires.workers.1,
)

pub draw_bands-requires-clause-bands : goal.draw_bands-requires-clause-bands
draw_bands-requires-clause-bands g c κs within =
    let scene = c.args.scene.now in
    let ground = c.in-Ok.ground in
    subst (λ (s : Shot _). AreBandsOf s.graph ground.columns c.deref.result.now ground.bands.items) (sym c.of-setup.ensures.scene)
    (subst (λ (ts : List Bounds). AreBandsOf scene.graph ground.columns ts ground.bands.items) (sym c.deref.ensures.value)
    (bands_of scene.graph ground.layout c.args.shared.now.grid ground.columns ground.tiles.items ground.bands.items c.in-Ok.ensures.layout
    c.in-Ok.ensures.in_bands))

pub of_bands-requires-clause-bands : goal.of_bands-requires-clause-bands
of_bands-requires-clause-bands g c =
    let t = to_z w64 (of_z w64 c.args.frame) in
    let m = g.E.ImageEffect.meaning in
    let ground = c.in-Ok.ground in
    let drawn = c.in_ok-bands.field-0.bands in
    let all = c.in_ok-bands.ensures.all in
    are_bands m c.args.scene.now t ground.layout c.args.shared.now.grid ground.columns ground.tiles.items ground.bands.items drawn.items
    c.in-Ok.ensures.layout c.in-Ok.ensures.in_bands (omega (arith, all, ground.bands.ok.0, drawn.ok.0))
    (subst (λ (s : Shot _). ShowEach (picture m s.graph (images_in s.store) t) ground.bands.items drawn.items) c.of-setup.ensures.scene
    c.in_ok-bands.ensures.show)

pub returns-in-Ok-of_bands-clause-picture : goal.returns-in-Ok-of_bands-clause-picture
returns-in-Ok-of_bands-clause-picture g c =
    let fits : SFits w64 c.args.frame = c.ranges.frame in
    let t = to_z w64 (of_z w64 c.args.frame) in
    let m = g.E.ImageEffect.meaning in
    let ground = c.in-Ok.ground in
    let drawn = c.in_ok-bands.field-0.bands in
    let all = c.in_ok-bands.ensures.all in
    simp to_z-of_z at
    (is_picture m c.args.scene.now t ground.layout c.args.shared.now.grid ground.columns ground.tiles.items ground.bands.items drawn.items
    c.in-Ok.ensures.layout c.in-Ok.ensures.in_bands (omega (arith, all, ground.bands.ok.0, drawn.ok.0))
    (subst (λ (s : Shot _). ShowEach (picture m s.graph (images_in s.store) t) ground.bands.items drawn.items) c.of-setup.ensures.scene
    c.in_ok-bands.ensures.show) c.in-Ok-of_bands.picture c.in-Ok-of_bands.ensures.layout c.in-Ok-of_bands.ensures.whole
    c.in-Ok-of_bands.ensures.pixels)

pub returns-in-Ok-of_bands-clause-count : goal.returns-in-Ok-of_bands-clause-count
returns-in-Ok-of_bands-clause-count g c =
    let fits : SFits w64 c.args.frame = c.ranges.frame in
    let t = to_z w64 (of_z w64 c.args.frame) in
    let m = g.E.ImageEffect.meaning in
    let scene = c.args.scene.now in
    let nodes = scene_nodes m scene in
    let count = c.in_ok-bands.field-0.count in
    let tiles = c.deref.result.now in
    let in_scene =
    subst (λ (s : Shot _). CountsTiles (scene_nodes m s) c.of-setup.result.shared.now.grid (map (end_of (scene_nodes m s) s.graph.output t) tiles) count)
    c.of-setup.ensures.scene c.in_ok-bands.ensures.count in
    let on_grid =
    subst (λ (s : Shared _). CountsTiles nodes s.grid (map (end_of nodes scene.graph.output t) tiles) count) c.of-setup.ensures.shared in_scene in
    simp to_z-of_z at
    (subst (λ (ts : List Bounds). CountsTiles nodes c.args.shared.now.grid (map (end_of nodes scene.graph.output t) ts) count)
    (c.deref.ensures.value ∙ c.in-Ok.ensures.tiles) on_grid)

pub returns-in-Ok-of_bands-clause-none_kept : goal.returns-in-Ok-of_bands-clause-none_kept
returns-in-Ok-of_bands-clause-none_kept g c =
    let drawn = c.in_ok-bands.field-0 in
    let after = subst (λ (s : Shared _). All (IsFree s) drawn.seats.items) c.of-setup.ensures.shared c.in_ok-bands.ensures.seats.1 in
    nothing_kept c.args.shared.now c.args.seats.items drawn.seats.items drawn.count c.requires.workers.1 after c.in_ok-bands.ensures.rises

pub returns-in-Ok-of_bands-clause-seats : goal.returns-in-Ok-of_bands-clause-seats
returns-in-Ok-of_bands-clause-seats g c = (
  c.in_ok-bands.ensures.seats.0,
  subst (λ (s : Shared _). All (IsFree s) c.in_ok-bands.field-0.seats.items) c.of-setup.ensures.shared c.in_ok-bands.ensures.seats.1,
)

pub returns-clause-back : goal.returns-clause-back
returns-clause-back g c = (
  c.in_ok-bands.ensures.seats.0,
  subst (λ (s : Shared _). All (IsFree s) c.in_ok-bands.field-0.seats.items) c.of-setup.ensures.shared c.in_ok-bands.ensures.seats.1,
)
