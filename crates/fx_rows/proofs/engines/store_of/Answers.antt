use Rattle.std.proofs.Common.{List, sym, subst, pos}
use Rattle.fx_scene.specs.Scenes.{graph_nodes, graph_shown, no_images}
use Rattle.fx_scene.specs.Wants.{AreWanted}
use Rattle.fx_seq.specs.declared.wanted.Wanted.{Wanted}
use Rattle.fx_shipped.specs.Shipped.{meaning_of}
use Rattle.fx_tile.proofs.FilledLemmas.{wanted_held}
use Rattle.fx_rows.proofs.engines.store_of.Goals as goal

pub returns : goal.returns
returns c =
    let g = graph_shown c.args.graph.now in
    let at = pos c.args.at in
    let wanted = c.deref.result.now in
    let exact : AreWanted (graph_nodes meaning_of g no_images) g.output at at wanted =
    subst (λ (ws : List Wanted). AreWanted (graph_nodes meaning_of g no_images) g.output at at ws) (sym c.deref.ensures.value)
    c.in_ok-wanted.ensures.exact in
    wanted_held meaning_of g c.in_ok-store.store at wanted _ 8192 exact (c.in_ok-store.ensures.pictures tt)
