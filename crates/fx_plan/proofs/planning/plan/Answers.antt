use Rattle.std.proofs.Common.{◌+◌, subst, length, w64}
use Rattle.std.proofs.lemmas.Int.{to_z-of_z}
use mir.Val.{SFits}
use Rattle.fx_graph.specs.Shown.{GraphShown}
use Rattle.fx_plan.specs.Agree.{EndsAgree}
use Rattle.fx_scene.proofs.Members.{all_from}
use Rattle.fx_scene.specs.Scenes.{graph_nodes, images_in}
use Rattle.fx_scene.specs.Sites.{scene_nodes}
use Rattle.fx_plan.specs.Keys.{KeyHasRect, entry_of}
use Rattle.fx_plan.proofs.KeyLemmas.{has_entry}
use Rattle.fx_plan.proofs.PlanLemmas.{plan_listed}
use Rattle.fx_plan.proofs.HeldLemmas.{demanded_over}
use Rattle.fx_plan.proofs.planning.plan.Goals as goal

pub entries_of-requires : goal.entries_of-requires
entries_of-requires g c =
    let done = c.in_ok-demanded.demanded in
    all_from KeyHasRect done.keys (λ k i. (c.in_ok-demanded.ensures.renders (entry_of k) (has_entry done k i)).rect)

pub returns-clause-plan : goal.returns-clause-plan
returns-clause-plan g c =
    let scene = c.args.scene.now in
    let nodes = scene_nodes g.E.ImageEffect.meaning scene in
    let fits : SFits w64 c.args.frame = c.ranges.frame in
    let demanded = simp to_z-of_z at c.in_ok-demanded.ensures.demanded in
    plan_listed nodes scene.graph.output c.args.grid scene.graph.project c.args.frame c.in_ok-demanded.demanded
    c.in_ok-entries.entries.items demanded c.in_ok-entries.ensures.entries c.in_ok-entries.ensures.order

pub returns-clause-agrees : goal.returns-clause-agrees
returns-clause-agrees g c = λ other are same.
    let m = g.E.ImageEffect.meaning in
    let scene = c.args.scene.now in
    let graph = scene.graph in
    let done = c.in_ok-demanded.demanded in
    let fits : SFits w64 c.args.frame = c.ranges.frame in
    let demanded = simp to_z-of_z at c.in_ok-demanded.ensures.demanded in
    let agree : EndsAgree m graph = subst (λ (h : GraphShown _). EndsAgree m h) c.graph.ensures.shown c.ends_agree.ensures in
    plan_listed (graph_nodes m graph other) graph.output c.args.grid graph.project c.args.frame done c.in_ok-entries.entries.items
    (demanded_over m graph agree (images_in scene.store) c.scene_is.ensures.held c.args.grid c.args.frame other are same
    c.args.regions.now (length graph.nodes) (graph.output + 1) done c.requires.regions c.in_ok-demanded.ensures.renders demanded)
    c.in_ok-entries.ensures.entries c.in_ok-entries.ensures.order
