use Rattle.fx_scene.specs.Scenes.{graph_shown}
use Rattle.fx_shipped.specs.Shipped.{meaning_of, number_of}
use Rattle.fx_proxy.proofs.NeedLemmas.{moments_same, shipped_keep, wants_same}
use Rattle.fx_proxy.proofs.laws.wants_stay.Goals as goal

pub returns : goal.returns
returns c =
    let g = graph_shown c.args.graph.now in
    record {
      graph = λ q. wants_same meaning_of number_of shipped_keep g q;
      takes = λ q. moments_same meaning_of number_of shipped_keep g q;
    }
