use Rattle.std.proofs.Common.{◌+◌, length, refl, arith, w64, inl}
use Rattle.std.proofs.lemmas.Int.{to_z-of_z}
use Rattle.std.proofs.lemmas.Bool.{false≢true}
use mir.Val.{SFits}
use Rattle.fx_scene.proofs.Members.{all_in, in_of}
use Rattle.fx_scene.specs.Sites.{scene_nodes}
use Rattle.fx_region.proofs.TableLemmas.{scene_table}
use Rattle.fx_plan.specs.Keys.{IsRenderEntry, entry_of}
use Rattle.fx_plan.specs.Plan.{needed_entries, window_entries}
use Rattle.fx_plan.proofs.KeyLemmas.{adds_one, fewer, split}
use Rattle.fx_plan.proofs.PlanLemmas.{planning_end, planning_start, planning_step}
use Rattle.fx_plan.proofs.StepLemmas.{none_has, none_left, one_render, start_renders, step_renders, step_smaller}
use Rattle.fx_plan.proofs.planning.demanded_keys.Goals as goal

pub loop-key-init : goal.loop-key-init
loop-key-init g c =
    let scene = c.args.scene.now in
    let nodes = scene_nodes g.E.ImageEffect.meaning scene in
    let graph = scene.graph in
    let none = none_has c.new-pending.result c.new-pending.ensures.empty in
    let none_done = none_has c.new-demanded.result c.new-demanded.ensures.empty in
    let fits : SFits w64 c.args.frame = c.ranges.frame in
    let added = simp to_z-of_z at c.in_ok-add_window.ensures.added in
    let renders = simp to_z-of_z at c.in_ok-add_window.ensures.renders in
    let entries = window_entries nodes graph.output c.args.grid graph.project c.args.frame in
    simp to_z-of_z (
      planning_start nodes graph.output c.args.grid graph.project c.args.frame c.new-pending.result c.add_window.new.pending
          c.new-demanded.result none none_done added,
      start_renders nodes c.args.regions.now (graph.output + 1) entries c.new-pending.result
          c.add_window.new.pending none added renders,
      λ e h. absurd (none_done e h),
    )

pub add_needs-requires-clause-regions : goal.add_needs-requires-clause-regions
add_needs-requires-clause-regions g c = record { at = c.args.frame; are = c.requires }

pub add_needs-requires-clause-rect : goal.add_needs-requires-clause-rect
add_needs-requires-clause-rect g c = (c.loop-key.invariant.1 (entry_of c.in-Some.key) c.in-Some.ensures.member).rect

pub add_needs-requires-clause-reached : goal.add_needs-requires-clause-reached
add_needs-requires-clause-reached g c =
    (c.loop-key.invariant.1 (entry_of c.in-Some.key) c.in-Some.ensures.member).reached

pub add_needs-requires-clause-within : goal.add_needs-requires-clause-within
add_needs-requires-clause-within g c =
    (c.loop-key.invariant.1 (entry_of c.in-Some.key) c.in-Some.ensures.member).inside

pub loop-key-smaller : goal.loop-key-smaller
loop-key-smaller g c =
    let m = g.E.ImageEffect.meaning in
    let scene = c.args.scene.now in
    let nodes = scene_nodes m scene in
    let count = length scene.graph.nodes in
    let table = scene_table m scene c.args.regions.now nodes count (record { at = c.args.frame; are = c.requires }) refl refl in
    let few = c.scene_nodes.ensures.few in
    let key = c.in-Some.key in
    let popped = c.in-Some.ensures in
    let needs = c.in_ok-add_needs.ensures in
    step_smaller nodes c.scene_nodes.ensures.nodes c.args.regions.now count (omega (arith, few)) table (scene.graph.output + 1)
    (needed_entries nodes c.args.grid (entry_of key)) c.loop-key.pending c.pop_last.new.self c.add_needs.new.pending key
    c.loop-key.invariant.1 popped.member popped.updates popped.all_below needs.added needs.renders

pub loop-key-preserved : goal.loop-key-preserved
loop-key-preserved g c =
    let scene = c.args.scene.now in
    let nodes = scene_nodes g.E.ImageEffect.meaning scene in
    let graph = scene.graph in
    let n = graph.output + 1 in
    let fits : SFits w64 c.args.frame = c.ranges.frame in
    let inv = simp to_z-of_z at c.loop-key.invariant in
    let pending = c.loop-key.pending in
    let less = c.pop_last.new.self in
    let more = c.add_needs.new.pending in
    let key = c.in-Some.key in
    let popped = c.in-Some.ensures in
    let needs = c.in_ok-add_needs.ensures in
    let needed = needed_entries nodes c.args.grid (entry_of key) in
    let one = adds_one c.loop-key.demanded c.insert.new.self key c.in_ok-insert.ensures.updates in
    simp to_z-of_z (
      planning_step nodes graph.output c.args.grid graph.project c.args.frame pending less more c.loop-key.demanded
          c.insert.new.self key inv.0 popped.member (fewer pending less key popped.updates)
          (split pending less key popped.updates) needs.added
          (λ d i. inl ((all_in (IsRenderEntry nodes c.args.regions.now key.node) needed d needs.renders (in_of needed d i)).earlier)) one,
      step_renders nodes c.args.regions.now n needed pending less more key inv.1 popped.member
          popped.updates needs.added needs.renders,
      one_render nodes c.args.regions.now n pending c.loop-key.demanded c.insert.new.self key inv.1
          popped.member inv.2 one,
    )

pub returns-clause-demanded : goal.returns-clause-demanded
returns-clause-demanded g c =
    let scene = c.args.scene.now in
    let nodes = scene_nodes g.E.ImageEffect.meaning scene in
    let graph = scene.graph in
    let fits : SFits w64 c.args.frame = c.ranges.frame in
    let inv = simp to_z-of_z at c.loop-key.invariant in
    planning_end nodes graph.output c.args.grid graph.project c.args.frame c.loop-key.pending c.loop-key.demanded
    inv.0 (none_left c.loop-key.pending (λ some. false≢true (c.in_default.ensures.variant.1 some)))

pub returns-clause-renders : goal.returns-clause-renders
returns-clause-renders g c = c.loop-key.invariant.2
