use Rattle.std.proofs.Common.{◌≡◌, ◌∙◌, ap, refl, sym, w64, ℕ, ℤ, Option}
use Rattle.std.proofs.lemmas.Int.{to_z-of_z}
use Rattle.std.proofs.lemmas.Result.{IfOk-weaker}
use mir.Val.{SFits}
use Rattle.fx_base.specs.Bounds.{Bounds}
use Rattle.fx_scene.specs.Areas.{area}
use Rattle.fx_scene.specs.Nodes.{Effect, Node, Source}
use Rattle.fx_scene.specs.Scenes.{graph_shown, images_in}
use Rattle.fx_region.specs.Ends.{chosen, cut_end, source_end, whole_or_cut}
use Rattle.fx_scene.specs.Sites.{effect_at, site_nodes, source_of}
use Rattle.fx_region.specs.declared.following.Stand.{Stand}
use Rattle.fx_region.proofs.FollowLemmas.{cut_by, read_by}
use Rattle.fx_scene.proofs.SiteLemmas.{effect_in, is_effect, source_is}
use Rattle.fx_region.proofs.TableLemmas.{asked_so, asked_some}
use Rattle.fx_region.proofs.following.stand_of.Goals as goal

pub effect_stand-requires-clause-effect : goal.effect_stand-requires-clause-effect
effect_stand-requires-clause-effect g c =
    let site = c.args.site.now in
    is_effect g.E.ImageEffect.meaning (graph_shown site.graph.now) (images_in site.store.now) c.requires.nodes c.in-Effect.used c.in-Effect.ensures.1

pub of_effect-requires : goal.of_effect-requires
of_effect-requires g c =
    let site = c.args.site.now in
    let m = g.E.ImageEffect.meaning in
    let used = c.in-Effect.used in
    let stands = effect_in m (graph_shown site.graph.now) (images_in site.store.now) c.args.node used c.in-Effect.ensures.0 c.in-Effect.ensures.1 in
    asked_some (site_nodes m site c.args.node) (effect_at m site.graph.now.project used) c.args.frame c.args.reached.now.asked stands c.requires.asked

pub effect_stand-requires-clause-values : goal.effect_stand-requires-clause-values
effect_stand-requires-clause-values g c =
    let site = c.args.site.now in
    let m = g.E.ImageEffect.meaning in
    let used = c.in-Effect.used in
    let o = effect_at m site.graph.now.project used in
    let stands = effect_in m (graph_shown site.graph.now) (images_in site.store.now) c.args.node used c.in-Effect.ensures.0 c.in-Effect.ensures.1 in
    let fits : SFits w64 c.args.frame = c.ranges.frame in
    let so = asked_so (site_nodes m site c.args.node) o c.args.frame c.args.reached.now.asked _ stands c.requires.asked c.of_effect.ensures in
    so.0 ∙ ap o.values (sym (to_z-of_z w64 _ fits))

pub returns-in_ok-source_end-in-Source-clause-end : goal.returns-in_ok-source_end-in-Source-clause-end
returns-in_ok-source_end-in-Source-clause-end g c ends =
    let site = c.args.site.now in
    let m = g.E.ImageEffect.meaning in
    let images = images_in site.store.now in
    let source = c.in-Source.source in
    let s = source_of images c.args.node source in
    let stands = source_is m (graph_shown site.graph.now) images c.args.node source c.in-Source.ensures in
    let fits : SFits w64 c.args.frame = c.ranges.frame in
    let shown = simp to_z-of_z at c.shown_frame-shown.ensures in
    c.in_ok-source_end-in-Source.ensures s refl
    ∙ ap (λ (o : Option ℤ). source_end c.args.node s o c.args.cut) shown
    ∙ cut_by ends c.args.node (site_nodes m site) (Source s) c.args.frame c.args.cut stands

pub returns-in-Effect-clause-end : goal.returns-in-Effect-clause-end
returns-in-Effect-clause-end g c ends =
    let site = c.args.site.now in
    let m = g.E.ImageEffect.meaning in
    let used = c.in-Effect.used in
    let o = effect_at m site.graph.now.project used in
    let at = c.in-Effect.ensures in
    let stands = effect_in m (graph_shown site.graph.now) (images_in site.store.now) c.args.node used at.0 at.1 in
    let fits : SFits w64 c.args.frame = c.ranges.frame in
    let nodes = site_nodes m site in
    let place : chosen nodes used.place c.args.frame c.args.cut ≡ whole_or_cut (Effect o) c.args.reached.now.area c.args.cut =
    ap (λ (n : ℕ). chosen nodes n c.args.frame c.args.cut) at.0
    ∙ ap (λ (q : Node). whole_or_cut q (area nodes c.args.node c.args.frame) c.args.cut) stands
    ∙ ap (λ (w : Bounds). whole_or_cut (Effect o) w c.args.cut) (sym c.requires.area) in
    let answered = (simp to_z-of_z at (c.effect_stand.ensures.end (chosen nodes) ends)) place in
    IfOk-weaker c.effect_stand.result _ _ (λ (s : Stand) is.
    is ∙ ap (λ (n : ℕ). cut_end (chosen nodes) ends n (Effect o) c.args.frame c.args.cut) at.0
    ∙ cut_by ends c.args.node (site_nodes m site) (Effect o) c.args.frame c.args.cut stands) answered

pub returns-in-Effect-clause-read : goal.returns-in-Effect-clause-read
returns-in-Effect-clause-read g c =
    let site = c.args.site.now in
    let m = g.E.ImageEffect.meaning in
    let used = c.in-Effect.used in
    let o = effect_at m site.graph.now.project used in
    let at = c.in-Effect.ensures in
    let stands = effect_in m (graph_shown site.graph.now) (images_in site.store.now) c.args.node used at.0 at.1 in
    let fits : SFits w64 c.args.frame = c.ranges.frame in
    let answered = simp to_z-of_z at c.effect_stand.ensures.read in
    IfOk-weaker c.effect_stand.result _ _ (λ (s : Stand) read.
    read_by c.args.node (site_nodes m site) (Effect o) c.args.frame s stands read) answered
