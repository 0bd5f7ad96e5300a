use Rattle.std.proofs.Common.{◌≡◌, ◌≤◌, ◌<◌, ◌∙◌, ap, sym, subst, map, w64, length, arith, All, List, ℕ, ℤ}
use Rattle.std.proofs.lemmas.Int.{to_z-of_z}
use mir.Val.{SFits}
use Rattle.fx_base.specs.Rect.{IsWithin}
use Rattle.fx_scene.specs.Areas.{area}
use Rattle.fx_scene.specs.Nodes.{AreNodes, Effect, EffectNode, IsNode, Node}
use Rattle.fx_region.specs.Ends.{end_of}
use Rattle.fx_region.specs.Needs.{need_shown, needs_of, node_needs}
use Rattle.fx_scene.specs.Sites.{scene_nodes}
use Rattle.fx_region.specs.declared.ends.Need.{Need}
use Rattle.fx_tile.proofs.NeedLemmas.{IsNeedIn, needs_in}
use Rattle.fx_tile.proofs.ReadyLemmas.{all_shown, need_some, needs_ready, renders_are}
use Rattle.fx_tile.proofs.tile.needs_of.Goals as goal

pub demand_by-requires-clause-within : goal.demand_by-requires-clause-within
demand_by-requires-clause-within g c =
    let fits : SFits w64 c.args.frame = c.ranges.frame in
    let nodes = scene_nodes g.E.ImageEffect.meaning c.args.setup.now.scene.now in
    subst (λ (t : ℤ). IsWithin c.args.region (area nodes c.args.node t)) (sym (to_z-of_z w64 _ fits)) c.requires.renderable.within

are_in : (nodes : _) → AreNodes nodes → (side n : ℕ) (o : EffectNode) → nodes n ≡ Effect o → (t : ℤ) (r : _) (needs : List Need) → 0 < side
    → map need_shown needs ≡ needs_of nodes side n t r → All (IsNeedIn nodes (length o.clips) side) (map need_shown needs)
are_in nodes ok side n o there t r needs some are =
    subst (All (IsNeedIn nodes (length o.clips) side))
    (sym (are ∙ ap (λ (q : Node). node_needs (end_of nodes) (area nodes) side q t r) there))
    (needs_in nodes ok side some n o (subst (IsNode n) there (ok n)) t r)

pub returns-clause-needs : goal.returns-clause-needs
returns-clause-needs g c =
    let fits : SFits w64 c.args.frame = c.ranges.frame in
    let m = g.E.ImageEffect.meaning in
    let nodes = scene_nodes m c.args.setup.now.scene.now in
    let needs = c.in_ok-needs.needs in
    let same = c.with_side-grid.ensures.same in
    let are = rw same at (simp to_z-of_z at c.in_ok-needs.ensures.needs) in
    let least = c.with_side-grid.ensures.some in
    let some : 0 < c.args.setup.now.shared.now.grid = omega (arith, least, same) in
    record {
      shows = λ o is. simp to_z-of_z at (c.in_ok-needs.ensures.shows o is);
      clips = λ o is.
          all_shown (IsNeedIn nodes (length o.clips) c.args.setup.now.shared.now.grid) (λ need. need.clip < length o.clips) (λ need h. h.clip) needs.items
          (are_in nodes c.requires.setup.nodes c.args.setup.now.shared.now.grid c.args.node o is c.args.frame c.args.region needs.items some are);
      found =
          let o = c.requires.renderable.effect in
          all_shown (IsNeedIn nodes (length o.clips) c.args.setup.now.shared.now.grid) _ (need_some nodes (length o.clips) c.args.setup.now.shared.now.grid) needs.items
          (are_in nodes c.requires.setup.nodes c.args.setup.now.shared.now.grid c.args.node o c.requires.renderable.there c.args.frame c.args.region needs.items some are);
    }

pub returns-clause-ready : goal.returns-clause-ready
returns-clause-ready g c =
    let fits : SFits w64 c.args.frame = c.ranges.frame in
    let m = g.E.ImageEffect.meaning in
    let nodes = scene_nodes m c.args.setup.now.scene.now in
    let needs = c.in_ok-needs.needs in
    let same = c.with_side-grid.ensures.same in
    let are = rw same at (simp to_z-of_z at c.in_ok-needs.ensures.needs) in
    let side = c.args.setup.now.shared.now.grid in
    let least = c.with_side-grid.ensures.some in
    let some : 0 < side = omega (arith, least, same) in
    let most = c.with_side-grid.ensures.few in
    let few : side ≤ 1024 = omega (arith, most, same) in
    let o = c.requires.renderable.effect in
    needs_ready m c.args.setup.now c.requires.setup.store c.args.node (length o.clips) side needs.items (omega (arith, few)) c.in_ok-needs.ensures.stand
    (are_in nodes c.requires.setup.nodes side c.args.node o c.requires.renderable.there c.args.frame c.args.region needs.items some are)

pub returns-clause-renders : goal.returns-clause-renders
returns-clause-renders g c =
    let fits : SFits w64 c.args.frame = c.ranges.frame in
    let same = c.with_side-grid.ensures.same in
    let nodes = scene_nodes g.E.ImageEffect.meaning c.args.setup.now.scene.now in
    renders_are c.in_ok-needs.needs.items (needs_of nodes c.args.setup.now.shared.now.grid c.args.node c.args.frame c.args.region) (rw same at (simp to_z-of_z at c.in_ok-needs.ensures.needs))
