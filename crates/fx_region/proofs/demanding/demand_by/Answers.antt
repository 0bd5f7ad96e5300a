use Rattle.std.proofs.Common.{rules, ◌<◌, ◌∙◌, ap, refl, sym, subst, w64, length, arith, All}
use Rattle.std.proofs.lemmas.Int.{to_z-of_z}
use Rattle.std.proofs.lemmas.Result.{IfOk-weaker}
use mir.Val.{SFits}
use Rattle.std.specs.declared.alloc.Global.{Global}
use Rattle.std.specs.declared.vec.Vec.{Vec}
use Rattle.fx_base.specs.Bounds.{IsRect}
use Rattle.fx_scene.specs.Areas.{area}
use Rattle.fx_scene.specs.Nodes.{AreNodes, Node, Nodes}
use Rattle.fx_scene.proofs.Outside.{area_window}
use Rattle.fx_region.specs.Ends.{chosen, end_of}
use Rattle.fx_region.specs.Needs.{needs_of, node_needs}
use Rattle.fx_scene.specs.Sites.{scene_nodes, site_nodes}
use Rattle.fx_region.specs.Stands.{NeedStands}
use Rattle.fx_region.specs.Suffice.{ShowsTaps}
use Rattle.fx_region.specs.declared.ends.Need.{Need}
use Rattle.fx_region.proofs.FollowLemmas.{window_within}
use Rattle.fx_region.proofs.ChoiceLaws.{is_choice}
use Rattle.fx_region.proofs.NeedLaws.{shows_taps}
use Rattle.fx_region.proofs.StandLemmas.{needs_stand}
use Rattle.fx_region.proofs.TableLemmas.{scene_table}
use Rattle.fx_region.proofs.demanding.demand_by.Goals as goal

pub needs_in-requires-clause-table : goal.needs_in-requires-clause-table
needs_in-requires-clause-table g c =
    let m = g.E.ImageEffect.meaning in
    let site = c.site_of-site.result in
    scene_table m c.args.scene.now c.args.regions.now (site_nodes m site) (length site.graph.now.nodes.items) c.requires.regions
    c.site_of-site.ensures.same c.site_of-site.ensures.count

pub needs_in-requires-clause-window : goal.needs_in-requires-clause-window
needs_in-requires-clause-window g c =
    let m = g.E.ImageEffect.meaning in
    let nodes = scene_nodes m c.args.scene.now in
    let are = subst AreNodes c.site_of-site.ensures.same c.site_of-site.ensures.nodes in
    let table = needs_in-requires-clause-table g c in
    let few = c.site_of-site.result.graph.now.rendered.few in
    let there = (table.places c.args.node c.args.frame c.requires.reached).there in
    let rect : IsRect c.args.region = search rules in
    window_within c.args.region (area nodes c.args.node c.args.frame) rect c.requires.within (area_window nodes are c.args.node c.args.frame (omega (arith, few, there)))

pub returns-clause-needs : goal.returns-clause-needs
returns-clause-needs g c =
    let fits : SFits w64 c.args.frame = c.ranges.frame in
    let needed = simp to_z-of_z at c.needs_in.ensures in
    IfOk-weaker c.needs_in.result _ _ (λ (needs : Vec Need Global) are.
    are ∙ ap (λ (nodes : Nodes). needs_of nodes c.args.grid c.args.node c.args.frame c.args.region) c.site_of-site.ensures.same) needed

pub returns-clause-shows : goal.returns-clause-shows
returns-clause-shows g c o is =
    let m = g.E.ImageEffect.meaning in
    let nodes = scene_nodes m c.args.scene.now in
    let are = subst AreNodes c.site_of-site.ensures.same c.site_of-site.ensures.nodes in
    let some : 0 < c.args.grid = search rules in
    IfOk-weaker c.needs_in.result _ _ (λ (needs : Vec Need Global) they.
    subst (ShowsTaps nodes o c.args.frame c.args.region)
    (sym (they ∙ ap (λ (q : Node). node_needs (end_of nodes) (area nodes) c.args.grid q c.args.frame c.args.region) is))
    (shows_taps (chosen nodes) nodes are (is_choice nodes) c.args.grid c.args.node o c.args.frame c.args.region some is))
    (returns-clause-needs g c)

pub returns-clause-stand : goal.returns-clause-stand
returns-clause-stand g c =
    let m = g.E.ImageEffect.meaning in
    let nodes = scene_nodes m c.args.scene.now in
    let are = subst AreNodes c.site_of-site.ensures.same c.site_of-site.ensures.nodes in
    let count = length c.args.scene.now.graph.nodes in
    let table = scene_table m c.args.scene.now c.args.regions.now nodes count c.requires.regions refl refl in
    IfOk-weaker c.needs_in.result _ _ (λ (needs : Vec Need Global) they.
    subst (All (NeedStands nodes c.args.regions.now c.args.node)) (sym they)
    (needs_stand nodes are c.args.regions.now count table c.args.node c.args.grid (nodes c.args.node) (are c.args.node) c.args.frame c.args.region
    (table.reads c.args.node c.args.frame c.requires.reached)))
    (returns-clause-needs g c)
