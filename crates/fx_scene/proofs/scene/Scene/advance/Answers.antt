use Rattle.fx_scene.specs.Scenes.{graph_shown}
use Rattle.fx_scene.specs.Scripts.{edits_kept}
use Rattle.fx_scene.proofs.StoreLemmas.{fetched_more}
use Rattle.fx_scene.proofs.ScriptLemmas.{grown_store}
use Rattle.fx_scene.proofs.scene.Scene.advance.Goals as goal

pub returns-clause-grown : goal.returns-clause-grown
returns-clause-grown g c =
    let inside = c.self.inside in
    grown_store c.args.self.now (graph_shown inside.graph) (record { written = graph_shown inside.written.value; takes = edits_kept inside.takes; take = inside.take }) inside.number
    inside.store c.admit.new.self c.self.view_is
    (fetched_more c.admit.result inside.store c.admit.new.self c.args.frames.items c.admit.ensures.got c.admit.ensures.unchanged)
