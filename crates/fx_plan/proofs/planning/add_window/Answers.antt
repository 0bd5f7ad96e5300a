use Rattle.std.proofs.Common.{◌≡◌, ◌∙◌, ◌+◌, ℕ, ℤ, List, sym, ap, subst, w64, All, take, arith, ◌≤ℤ◌}
use Rattle.std.proofs.lemmas.Int.{ints, to_z-of_z}
use Rattle.std.proofs.lemmas.List.{take_all}
use Rattle.std.proofs.lemmas.List.Elements.{All-nil}
use Rattle.std.proofs.lemmas.List.Folds.{flat_map-map}
use mir.Val.{SFits}
use Rattle.std.specs.List.{flat_map}
use Rattle.fx_base.specs.Bounds.{Bounds}
use Rattle.fx_base.specs.Grid.{tiles_of}
use Rattle.fx_base.specs.Rect.{meet}
use Rattle.fx_graph.specs.Shown.{GraphShown}
use Rattle.fx_region.specs.Counts.{window_tiles}
use Rattle.fx_region.specs.Ends.{EndShown, end_of}
use Rattle.fx_region.specs.Tables.{Has}
use Rattle.fx_scene.specs.Nodes.{Nodes}
use Rattle.fx_scene.specs.Sites.{scene_nodes}
use Rattle.fx_plan.specs.Keys.{Adds, IsRenderEntry}
use Rattle.fx_plan.specs.Plan.{entry_at, window_entries}
use Rattle.fx_plan.specs.declared.entry.Entry.{Entry}
use Rattle.fx_plan.proofs.KeyLemmas.{adds_none}
use Rattle.fx_plan.proofs.StepLemmas.{adds_more, all_more}
use Rattle.fx_plan.proofs.planning.add_window.Goals as goal

-- the entries of the tiles are those of the window
whole_window : (nodes : Nodes) (output side : ℕ) (project : Bounds) (t : ℤ) (tiles : List Bounds) → tiles ≡ tiles_of side project
    → flat_map (λ (tile : Bounds). entry_at (end_of nodes output t (meet project tile))) tiles
    ≡ window_entries nodes output side project t
whole_window nodes output side project t tiles are =
    ap (flat_map (λ (tile : Bounds). entry_at (end_of nodes output t (meet project tile)))) are
    ∙ sym (flat_map-map (λ (r : Bounds). entry_at (end_of nodes output t r)) (meet project) (tiles_of side project))
    ∙ sym (flat_map-map entry_at (end_of nodes output t) (window_tiles side project))

pub loop-tile-init : goal.loop-tile-init
loop-tile-init g c =
    let nodes = scene_nodes g.E.ImageEffect.meaning c.args.scene.now in
    (adds_none c.args.pending.now, All-nil (IsRenderEntry nodes c.args.regions.now (c.args.scene.now.graph.output + 1)))

pub add_tile-requires-clause-regions : goal.add_tile-requires-clause-regions
add_tile-requires-clause-regions g c = record { at = c.args.frame; are = c.requires }

-- the output is reached at the frame
pub add_tile-requires-clause-reached : goal.add_tile-requires-clause-reached
add_tile-requires-clause-reached g c =
    let fits : SFits w64 c.args.frame = c.ranges.frame in
    let output = ap (λ (h : GraphShown _). h.output) c.graph-graph.ensures.shown in
    let t = c.args.frame in
    let same : t ≤ℤ t = omega (arith, ints) in
    simp to_z-of_z (subst (λ (n : ℕ). Has c.args.regions.now n t) (sym output)
    (c.requires.all c.args.scene.now.graph.output t (λ s closed. closed.start t same same)))

pub loop-tile-preserved : goal.loop-tile-preserved
loop-tile-preserved g c =
    let nodes = scene_nodes g.E.ImageEffect.meaning c.args.scene.now in
    let graph = c.args.scene.now.graph in
    let n = graph.output in
    let t = c.args.frame in
    let fits : SFits w64 t = c.ranges.frame in
    let output = ap (λ (h : GraphShown _). h.output) c.graph-graph.ensures.shown in
    let project = ap (λ (h : GraphShown _). h.project) c.graph-graph.ensures.shown in
    let f = λ (tile : Bounds). entry_at (end_of nodes n t (meet graph.project tile)) in
    let tiles = c.deref-tile-items.result.now in
    let i = c.loop-tile.tile-index in
    let tile = c.tile-item.result in
    let inv = simp to_z-of_z at c.loop-tile.invariant in
    let added = simp to_z-of_z at c.in_ok-add_tile.ensures.added in
    let renders = simp to_z-of_z at c.in_ok-add_tile.ensures.renders in
    let region = c.meet-region.ensures.bounds ∙ ap (λ (p : Bounds). meet p tile) project in
    let end = ap (λ (k : ℕ). end_of nodes k t c.meet-region.result) output ∙ ap (end_of nodes n t) region in
    simp to_z-of_z (
      adds_more f tiles i tile tile c.args.pending.now c.loop-tile.pending c.add_tile.new.pending c.loop-tile-test.true c.tile-item.is inv.0
          (subst (λ (e : EndShown). Adds (entry_at e) c.loop-tile.pending c.add_tile.new.pending) end added),
      all_more (IsRenderEntry nodes c.args.regions.now (n + 1)) f tiles i tile tile c.loop-tile-test.true c.tile-item.is inv.1
          (subst (λ (k : ℕ). All (IsRenderEntry nodes c.args.regions.now (k + 1)) (f tile)) output
          (subst (λ (e : EndShown). All (IsRenderEntry nodes c.args.regions.now (c.graph-graph.result.now.output + 1)) (entry_at e)) end renders)),
    )

pub returns-clause-added : goal.returns-clause-added
returns-clause-added g c =
    let nodes = scene_nodes g.E.ImageEffect.meaning c.args.scene.now in
    let graph = c.args.scene.now.graph in
    let fits : SFits w64 c.args.frame = c.ranges.frame in
    let inv = simp to_z-of_z at c.loop-tile.invariant in
    let project = ap (λ (h : GraphShown _). h.project) c.graph-graph.ensures.shown in
    let are = take_all c.loop-tile.tile-index c.deref-tile-items.result.now c.loop-tile-test.false ∙ c.deref-tile-items.ensures.value
    ∙ c.in_ok-tiles.ensures.tiles ∙ ap (tiles_of c.args.grid) project in
    subst (λ (es : List Entry). Adds es c.args.pending.now c.loop-tile.pending)
    (whole_window nodes graph.output c.args.grid graph.project c.args.frame (take c.loop-tile.tile-index c.deref-tile-items.result.now) are) inv.0

pub returns-clause-renders : goal.returns-clause-renders
returns-clause-renders g c =
    let nodes = scene_nodes g.E.ImageEffect.meaning c.args.scene.now in
    let graph = c.args.scene.now.graph in
    let fits : SFits w64 c.args.frame = c.ranges.frame in
    let inv = simp to_z-of_z at c.loop-tile.invariant in
    let project = ap (λ (h : GraphShown _). h.project) c.graph-graph.ensures.shown in
    let are = take_all c.loop-tile.tile-index c.deref-tile-items.result.now c.loop-tile-test.false ∙ c.deref-tile-items.ensures.value
    ∙ c.in_ok-tiles.ensures.tiles ∙ ap (tiles_of c.args.grid) project in
    subst (All (IsRenderEntry nodes c.args.regions.now (graph.output + 1)))
    (whole_window nodes graph.output c.args.grid graph.project c.args.frame (take c.loop-tile.tile-index c.deref-tile-items.result.now) are) inv.1
