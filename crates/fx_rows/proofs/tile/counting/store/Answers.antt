use Rattle.std.proofs.Common.{List, sym, subst, pos}
use Rattle.fx_effect.specs.Meaning.{Meaning}
use Rattle.fx_graph.specs.Shown.{GraphShown}
use Rattle.fx_scene.specs.Scenes.{graph_nodes, graph_shown, no_images}
use Rattle.fx_scene.specs.Wants.{AreWanted}
use Rattle.fx_seq.specs.declared.wanted.Wanted.{Wanted}
use Rattle.fx_tile.proofs.FilledLemmas.{wanted_held}
use Rattle.fx_rows.specs.TileCounting.{counted}
use Rattle.fx_rows.specs.declared.tile.counting.effect.Counted.{Counted}
use Rattle.fx_rows.proofs.tile.counting.store.Goals as goal

pub returns-in-Ok : goal.returns-in-Ok
returns-in-Ok c =
    let meaning : Counted → Meaning = λ e. counted e.safety in
    let g : GraphShown Counted = graph_shown c.args.graph.now in
    let wanted = c.deref.result.now in
    let exact : AreWanted (graph_nodes meaning g no_images) g.output (pos 3) (pos 3) wanted =
    subst (λ (ws : List Wanted). AreWanted (graph_nodes meaning g no_images) g.output (pos 3) (pos 3) ws) (sym c.deref.ensures.value)
    c.in_ok-wanted.ensures.exact in
    wanted_held meaning g c.in-Ok.store (pos 3) wanted _ 8192 exact (c.in-Ok.ensures.pictures tt)
