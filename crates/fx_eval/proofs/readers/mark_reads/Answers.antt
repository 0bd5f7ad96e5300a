use Rattle.std.proofs.Common.{◌≡◌, true}
use Rattle.std.proofs.lemmas.Result.{on_ok_weaker}
use Rattle.fx_scene.specs.Reach.{IsReadBy, has}
use Rattle.fx_scene.specs.Scenes.{graph_nodes, graph_shown, no_images}
use Rattle.fx_eval.proofs.ReaderLemmas.{marks_as}
use Rattle.fx_eval.proofs.readers.mark_reads.Goals as goal

pub returns : goal.returns
returns g c =
    let nodes = graph_nodes g.E.ImageEffect.meaning (graph_shown c.args.graph.now) no_images in
    let reader = c.args.reader in
    on_ok_weaker c.mark.result (λ marks. marks_as (λ m f. has c.in_ok-reads.reads m f ≡ true) (IsReadBy (nodes reader.node) reader.frame) reader c.args.last.now c.mark.new.last marks
    c.in_ok-reads.ensures.only c.in_ok-reads.ensures.all) c.mark.ensures
