use Rattle.std.proofs.Common.{ap, subst, sym, refl, List, ℕ}
use Rattle.fx_scene.specs.Scenes.{graph_shown}
use Rattle.fx_scene.specs.Scripts.{AreEras, untaken}
use Rattle.fx_scene.proofs.ScriptLemmas.{no_takes, played_first}
use Rattle.fx_scene.proofs.scene.Scene.new.Goals as goal

pub invariant_of-scene : goal.invariant_of-scene
invariant_of-scene g c =
    let written = graph_shown c.of-written.result.value in (
      played_first g.E.ImageEffect.meaning (graph_shown c.args.graph) written (ap graph_shown c.of-written.ensures) (no_takes g.E.ImageEffect.meaning (graph_shown c.args.graph) c.args.graph.kept),
      subst (λ (eras : List ℕ). AreEras (untaken written) eras) (sym c.new-eras.ensures.items) (λ n low. refl),
    )
