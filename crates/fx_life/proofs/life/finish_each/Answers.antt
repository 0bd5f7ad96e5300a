use Rattle.std.proofs.Common.{◌≡◌, ◌++◌, List, [], ◌∷◌, arith, sym, refl, ap, ◌∙◌}
use Rattle.std.specs.Vec.{vec_capacity}
use Rattle.fx_life.specs.Posts.{handed}
use Rattle.fx_life.proofs.LifeLemmas.{handed_on}
use Rattle.fx_life.proofs.RunningLemmas.{longer}
use Rattle.fx_life.proofs.life.finish_each.Goals as goal

pub loop-run-preserved : goal.loop-run-preserved
loop-run-preserved g c =
    let effects = c.loop-run.effects.items in
    let runs = c.loop-run.running.items in
    let run = c.in-Some.run' in
    let popped : runs ≡ c.pop.new.self.items ++ run ∷ [] = c.in-Some.ensures.items in
    let grown : c.push_reserved.new.self.items ≡ effects ++ run.effect ∷ [] =
    ◌∙◌ {A = List g.row.E.Denot} c.push_reserved.ensures.items (ap (λ e. effects ++ e ∷ []) c.finish.ensures) in
    let room : vec_capacity c.push_reserved.new.self ≡ vec_capacity c.loop-run.effects =
    c.push_reserved.ensures.capacity in
    let fewer = longer c.pop.new.self.items runs run popped in
    let more = longer effects c.push_reserved.new.self.items run.effect grown in
    record {
      room = omega (arith, c.loop-run.invariant.room, room, fewer, more);
      handed = sym (handed_on effects c.push_reserved.new.self.items c.pop.new.self.items run.effect run grown refl)
          ∙ ap (λ l. handed effects l) (sym popped)
          ∙ c.loop-run.invariant.handed;
    }
