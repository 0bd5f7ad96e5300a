use Rattle.std.proofs.Common.{◌∙◌, ◌+◌, refl, sym, subst, ap, w64, length}
use Rattle.std.proofs.lemmas.Int.{to_z-of_z}
use Rattle.std.proofs.lemmas.Result.{IfOk-weaker}
use mir.Val.{SFits}
use Rattle.fx_scene.specs.Nodes.{AreNodes, Nodes}
use Rattle.fx_region.specs.Ends.{chosen, end_of}
use Rattle.fx_scene.specs.Sites.{scene_nodes, site_nodes}
use Rattle.fx_region.specs.Stands.{StandsBelow}
use Rattle.fx_region.specs.Suffice.{ShowsEnd}
use Rattle.fx_region.specs.declared.ends.End.{End}
use Rattle.fx_region.proofs.ChoiceLaws.{is_choice}
use Rattle.fx_region.proofs.EndLaws.{shows_end}
use Rattle.fx_region.proofs.StandLemmas.{ends_stand}
use Rattle.fx_region.proofs.TableLemmas.{scene_table}
use Rattle.fx_region.proofs.following.follow_by.Goals as goal

pub find-requires-clause-table : goal.find-requires-clause-table
find-requires-clause-table g c =
    let m = g.E.ImageEffect.meaning in
    let site = c.site_of-site.result in
    scene_table m c.args.scene.now c.args.regions.now (site_nodes m site) (length site.graph.now.nodes.items) c.requires.regions
    c.site_of-site.ensures.same c.site_of-site.ensures.count

pub returns-clause-end : goal.returns-clause-end
returns-clause-end g c =
    let fits : SFits w64 c.args.frame = c.ranges.frame in
    let found = simp to_z-of_z at c.find.ensures in
    IfOk-weaker c.find.result _ _ (λ (end : End) is.
    is ∙ ap (λ (nodes : Nodes). end_of nodes c.args.node c.args.frame c.args.region) c.site_of-site.ensures.same) found

pub returns-clause-shows : goal.returns-clause-shows
returns-clause-shows g c =
    let m = g.E.ImageEffect.meaning in
    let nodes = scene_nodes m c.args.scene.now in
    let are = subst AreNodes c.site_of-site.ensures.same c.site_of-site.ensures.nodes in
    IfOk-weaker c.find.result _ _ (λ (end : End) is.
    subst (ShowsEnd nodes c.args.node c.args.frame c.args.region) (sym is) (shows_end (chosen nodes) nodes are (is_choice nodes) c.args.node c.args.frame c.args.region))
    (returns-clause-end g c)

pub returns-clause-stands : goal.returns-clause-stands
returns-clause-stands g c =
    let m = g.E.ImageEffect.meaning in
    let site = c.site_of-site.result in
    let nodes = scene_nodes m c.args.scene.now in
    let are = subst AreNodes c.site_of-site.ensures.same c.site_of-site.ensures.nodes in
    let table = scene_table m c.args.scene.now c.args.regions.now nodes (length c.args.scene.now.graph.nodes) c.requires.regions refl refl in
    IfOk-weaker c.find.result _ _ (λ (end : End) is.
    subst (StandsBelow nodes c.args.regions.now (c.args.node + 1)) (sym is)
    (ends_stand nodes are c.args.regions.now (length c.args.scene.now.graph.nodes) table c.args.node c.args.frame c.args.region c.requires.reached))
    (returns-clause-end g c)
