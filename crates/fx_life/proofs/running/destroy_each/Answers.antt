use Rattle.std.proofs.Common.{◌≡◌, ◌++◌, List, [], ◌∷◌, ap, subst, ◌∙◌}
use Rattle.fx_life.specs.Plugin.{Plugin, MadeFor, without}
use Rattle.fx_life.specs.Running.{AreLive}
use Rattle.fx_life.proofs.RunningLemmas.{fewer_live}
use Rattle.fx_life.proofs.running.destroy_each.Goals as goal

pub loop-instance-preserved : goal.loop-instance-preserved
loop-instance-preserved g c =
    let number = g.E.Catalogue.number_of c.loop-instance.plugin.effect in
    let m = c.in-Some.instance in
    let popped : c.loop-instance.idle.items ≡ c.pop.new.self.items ++ m ∷ [] = c.in-Some.ensures.items in
    let before =
    subst (λ (l : List MadeFor). AreLive number c.loop-instance.plugin.live l) popped
    c.loop-instance.invariant.live in
    let left = fewer_live number c.loop-instance.plugin.live c.pop.new.self.items m before in
    let live : c.destroy_instance.new.self.live ≡ without m.node c.loop-instance.plugin.live =
    ap (λ (p : Plugin _). p.live) c.destroy_instance.ensures.ok in
    let effect : c.destroy_instance.new.self.effect ≡ c.loop-instance.plugin.effect =
    ap (λ (p : Plugin _). p.effect) c.destroy_instance.ensures.ok in
    record {
      effect = effect ∙ c.loop-instance.invariant.effect;
      live = rw (live, effect) left;
    }
