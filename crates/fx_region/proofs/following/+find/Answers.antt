use Rattle.std.proofs.Common.{rules, ◌≢◌, ◌∙◌, ap, sym, subst, w64, length, arith, ℤ}
use Rattle.std.proofs.lemmas.Int.{to_z-of_z}
use Rattle.std.proofs.lemmas.Result.{IfOk-weaker}
use mir.Val.{SFits}
use Rattle.fx_base.specs.Bounds.{none}
use Rattle.fx_effect.specs.Asked.{IsWindow}
use Rattle.fx_scene.specs.Areas.{area}
use Rattle.fx_scene.specs.Reach.{IsPlace}
use Rattle.fx_scene.proofs.NearLemmas.{read_place}
use Rattle.fx_region.specs.Ends.{end_of, onward}
use Rattle.fx_region.specs.Follow.{GoesToRead, stand_end}
use Rattle.fx_scene.specs.Sites.{site_nodes}
use Rattle.fx_region.specs.Tables.{Has, IsAskedSo}
use Rattle.fx_region.specs.declared.ends.End.{End}
use Rattle.fx_region.proofs.FollowLemmas.{cut_is, cut_window, void_end}
use Rattle.fx_region.proofs.following.+find.Goals as goal

pub returns-then-is_empty : goal.returns-then-is_empty
returns-then-is_empty g t c =
    let nodes = site_nodes g.E.ImageEffect.meaning c.args.site.now in
    let fits : SFits w64 c.args.frame = c.ranges.frame in
    let is = simp to_z-of_z at (c.known-reached.ensures.area nodes c.requires.table.right) in
    void_end nodes c.requires.nodes c.args.node c.args.frame c.args.region c.known-reached.result.now.area c.meet-cut.result is c.meet-cut.ensures.bounds
    (c.is_empty.ensures.bounds.0 c.if-is_empty.true)

pub stand_of-requires-clause-place : goal.stand_of-requires-clause-place
stand_of-requires-clause-place g t c =
    let fits : SFits w64 c.args.frame = c.ranges.frame in
    subst (λ (f : ℤ). IsPlace (length c.args.site.now.graph.now.nodes.items) c.args.node f) (sym (to_z-of_z w64 _ fits))
    (c.requires.table.places c.args.node c.args.frame c.requires.reached)

pub stand_of-requires-clause-area : goal.stand_of-requires-clause-area
stand_of-requires-clause-area g t c =
    let nodes = site_nodes g.E.ImageEffect.meaning c.args.site.now in
    let fits : SFits w64 c.args.frame = c.ranges.frame in
    (simp to_z-of_z at (c.known-reached.ensures.area nodes c.requires.table.right))
    ∙ ap (area nodes c.args.node) (sym (to_z-of_z w64 _ fits))

pub stand_of-requires-clause-asked : goal.stand_of-requires-clause-asked
stand_of-requires-clause-asked g t c =
    let nodes = site_nodes g.E.ImageEffect.meaning c.args.site.now in
    let fits : SFits w64 c.args.frame = c.ranges.frame in
    let asked = simp to_z-of_z at (c.known-reached.ensures.asked nodes c.requires.table.asked) in
    subst (λ (f : ℤ). IsAskedSo (nodes c.args.node) f c.known-reached.result.now.asked) (sym (to_z-of_z w64 _ fits)) asked

pub stand_of-requires-clause-window : goal.stand_of-requires-clause-window
stand_of-requires-clause-window g t c =
    let nodes = site_nodes g.E.ImageEffect.meaning c.args.site.now in
    let fits : SFits w64 c.args.frame = c.ranges.frame in
    let is = simp to_z-of_z at (c.known-reached.ensures.area nodes c.requires.table.right) in
    let few = c.args.site.now.graph.now.rendered.few in
    let there = (c.requires.table.places c.args.node c.args.frame c.requires.reached).there in
    subst IsWindow (sym c.meet-cut.ensures.bounds)
    (cut_window nodes c.requires.nodes c.args.node c.args.frame c.args.region c.known-reached.result.now.area (omega (arith, few, there)) is)

pub find-requires : goal.find-requires
find-requires g t c κs within =
    let nodes = site_nodes g.E.ImageEffect.meaning c.args.site.now in
    let graph = c.args.site.now.graph.now in
    let fits : SFits w64 c.args.frame = c.ranges.frame in
    let near : SFits w64 c.in-Onward.f = search rules in
    let d = c.decreases in
    let read = subst (GoesToRead (nodes c.args.node) c.args.frame) c.in-Onward.is (simp to_z-of_z at c.in_ok-end.ensures.read) in
    let place = c.requires.table.places c.args.node c.args.frame c.requires.reached in
    let low = (read_place nodes (length graph.nodes.items) c.args.node c.args.frame c.in-Onward.m c.in-Onward.f c.requires.nodes graph.rendered.few place read).0 in
    let there = c.requires.table.reads c.args.node c.args.frame c.requires.reached c.in-Onward.m c.in-Onward.f read in
    (omega (arith, d, low), (within, (c.requires.nodes, (c.requires.table, subst (Has c.args.regions.now c.in-Onward.m) (sym (to_z-of_z w64 _ near)) there))))

pub returns-in-Here : goal.returns-in-Here
returns-in-Here g t c =
    let nodes = site_nodes g.E.ImageEffect.meaning c.args.site.now in
    let fits : SFits w64 c.args.frame = c.ranges.frame in
    let is = simp to_z-of_z at (c.known-reached.ensures.area nodes c.requires.table.right) in
    let some : c.meet-cut.result ≢ none = λ e. let t = c.is_empty.ensures.bounds.1 e in let f = c.if-is_empty.false in cc in
    ap (stand_end (end_of nodes) c.meet-cut.result) (sym c.in-Here.is)
    ∙ (simp to_z-of_z at (c.in_ok-end.ensures.end (end_of nodes)))
    ∙ cut_is nodes c.requires.nodes c.args.node c.args.frame c.args.region c.known-reached.result.now.area c.meet-cut.result is c.meet-cut.ensures.bounds some

pub returns-in_ok-end-in-Onward : goal.returns-in_ok-end-in-Onward
returns-in_ok-end-in-Onward g t c =
    let nodes = site_nodes g.E.ImageEffect.meaning c.args.site.now in
    let fits : SFits w64 c.args.frame = c.ranges.frame in
    let near : SFits w64 c.in-Onward.f = search rules in
    let is = simp to_z-of_z at (c.known-reached.ensures.area nodes c.requires.table.right) in
    let some : c.meet-cut.result ≢ none = λ e. let t = c.is_empty.ensures.bounds.1 e in let f = c.if-is_empty.false in cc in
    let found = simp to_z-of_z at c.in_ok-end-in-Onward.ensures in
    IfOk-weaker c.with_step.result _ _ (λ (e : End) more.
    more ∙ ap (onward c.in-Onward.step) found
    ∙ ap (stand_end (end_of nodes) c.meet-cut.result) (sym c.in-Onward.is)
    ∙ (simp to_z-of_z at (c.in_ok-end.ensures.end (end_of nodes)))
    ∙ cut_is nodes c.requires.nodes c.args.node c.args.frame c.args.region c.known-reached.result.now.area c.meet-cut.result is c.meet-cut.ensures.bounds some)
    c.with_step.ensures
