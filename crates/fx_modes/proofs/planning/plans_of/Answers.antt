use Rattle.std.proofs.Common.{rules, refl, ◌≡◌, ◌∙◌, ℕ, List, [], Some, ap, subst, sym}
use Rattle.fx_proxy.specs.Reduced.{IsScale}
use Rattle.fx_scene.specs.Scenes.{Shot, graph_shown}
use Rattle.fx_shipped.specs.declared.shipped.Shipped.{Shipped}
use Rattle.fx_words.specs.Ordered.{Ordered}
use Rattle.fx_words.specs.declared.order.Mode.{Mode}
use Rattle.fx_words.specs.declared.plan.PlanFrame.{PlanFrame}
use Rattle.fx_modes.specs.Ended.{calls}
use Rattle.fx_modes.specs.Files.{AreUsesOf}
use Rattle.fx_modes.specs.Graphs.{FileShown, Graph, file_shown}
use Rattle.fx_modes.specs.Planning.{IsPlanning}
use Rattle.fx_modes.specs.Plans.{ArePlansOf}
use Rattle.fx_modes.specs.Reels.{ordered_file, plain_reel, takes_for}
use Rattle.fx_modes.specs.Steps.{IsSourceFault}
use Rattle.fx_modes.proofs.PlanLemmas.{stopped}
use Rattle.fx_modes.proofs.PlanningLemmas.{all_planned, starts}
use Rattle.fx_modes.proofs.planning.plans_of.Goals as goal

pub add_each-requires-clause-planning : goal.add_each-requires-clause-planning
add_each-requires-clause-planning g c =
    let order = c.args.order.now in
    let h : Graph = graph_shown c.ordered-graph.result.graph in
    let a = c.first_of-first.result in
    let b = c.last_of-last.result in
    let q = c.order.inside.scale in
    let uses = c.deref.result.now in
    let scene = c.new-scene.result.0 in
    let graph : scene.graph ≡ h = ap (λ (s : Shot Shipped). s.graph) c.new-scene.ensures.scene in
    let scale : c.order.inside.scale ≡ order.scale = ap (λ (o : Ordered). o.scale) c.order.view_is in
    let are : AreUsesOf (plain_reel q h a b) uses = subst (AreUsesOf (plain_reel q h a b)) (sym c.deref.ensures.value) (c.in_ok-uses.ensures.ok q) in
    starts q scene.graph a b c.order.inside.tile uses _ (subst IsScale (sym scale) c.ordered-graph.ensures.size) c.first_of-first.ensures.small
    c.last_of-last.ensures.small (subst (λ (s : Graph). AreUsesOf (plain_reel q s a b) uses) (sym graph) are) refl refl (search rules)
    (search rules) (search rules) (search rules)

pub returns-in-Ok-clause-done : goal.returns-in-Ok-clause-done
returns-in-Ok-clause-done g c = λ told there.
    let l = g.L.Library in
    let order = c.args.order.now in
    let file = file_shown c.args.file in
    let h : Graph = graph_shown c.ordered-graph.result.graph in
    let q = order.scale in
    let same : h ≡ (ordered_file order file).graph = ap (λ (f : FileShown). f.graph) c.ordered-graph.ensures.shown in
    let a = c.first_of-first.result in
    let b = c.last_of-last.result in
    let uses = c.deref.result.now in
    let m = c.add_each.new.self in
    let graph : c.new-scene.result.0.graph ≡ h = ap (λ (s : Shot Shipped). s.graph) c.new-scene.ensures.scene in
    let tile : c.order.inside.tile ≡ order.tile = ap (λ (o : Ordered). o.tile) c.order.view_is in
    let none : takes_for order.mode file.takes ≡ [] = ap (λ (n : Mode). takes_for n file.takes) c.requires.in_mode in
    let are : AreUsesOf (plain_reel q h a b) uses = subst (AreUsesOf (plain_reel q h a b)) (sym c.deref.ensures.value) (c.in_ok-uses.ensures.ok q) in
    let planning : IsPlanning (plain_reel q h a b) uses order.tile m =
    let scale : c.order.inside.scale ≡ q = ap (λ (o : Ordered). o.scale) c.order.view_is in
    subst (λ (s : ℕ). IsPlanning (plain_reel q h a b) uses s m) tile
    (subst (λ (k : ℕ). IsPlanning (plain_reel k h a b) uses c.order.inside.tile m) scale
    (subst (λ (s : Graph). IsPlanning (plain_reel c.order.inside.scale s a b) uses c.order.inside.tile m) graph c.in-Ok.ensures.planning)) in
    subst (λ (frames : List PlanFrame). ArePlansOf (Some order) (l.file c.args.library.now) frames) (sym c.into_frames.ensures)
    (all_planned order (l.file c.args.library.now) file h a b uses there none same c.first_of-first.ensures.value c.last_of-last.ensures.value are
    l.tells told m planning c.in-Ok.ensures.all c.in-Ok.ensures.sources)

pub returns-clause-stops : goal.returns-clause-stops
returns-clause-stops g c = λ there.
    let l = g.L.Library in
    let order = c.args.order.now in
    let file = file_shown c.args.file in
    let h : Graph = graph_shown c.ordered-graph.result.graph in
    let q = order.scale in
    let same : h ≡ (ordered_file order file).graph = ap (λ (f : FileShown). f.graph) c.ordered-graph.ensures.shown in
    let a = c.first_of-first.result in
    let b = c.last_of-last.result in
    let uses = c.deref.result.now in
    let old = c.args.library.now in
    let new = c.add_each.new.library in
    let graph : c.new-scene.result.0.graph ≡ h = ap (λ (s : Shot Shipped). s.graph) c.new-scene.ensures.scene in
    let none : takes_for order.mode file.takes ≡ [] = ap (λ (n : Mode). takes_for n file.takes) c.requires.in_mode in
    let are : AreUsesOf (plain_reel q h a b) uses = subst (AreUsesOf (plain_reel q h a b)) (sym c.deref.ensures.value) (c.in_ok-uses.ensures.ok q) in
    stopped l.tells order (l.file old) file h a b uses there none same c.first_of-first.ensures.value c.last_of-last.ensures.value are
    (calls (l.faults old) (l.faults new) (l.last old) (l.last new)) c.in-Err.fault c.in-Err.ensures.stops c.source_fault.result
    (subst (λ (s : Graph). IsSourceFault s c.in-Err.fault c.source_fault.result) (c.graph.ensures.shown ∙ c.in-Err.ensures.graph ∙ graph)
    c.source_fault.ensures)
