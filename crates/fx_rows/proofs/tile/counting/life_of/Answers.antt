use Rattle.std.proofs.Common.{ap, subst, sym}
use Rattle.std.specs.List.{Contains}
use Rattle.fx_graph.specs.Shown.{GraphShown}
use Rattle.fx_life.proofs.LifeLemmas.{started_life}
use Rattle.fx_rows.specs.TileCounting.{counted_number}
use Rattle.fx_rows.specs.declared.tile.counting.effect.Counted.{Counted}
use Rattle.fx_rows.proofs.TileCountingLemmas.{among_three, apart_by}
use Rattle.fx_rows.proofs.tile.counting.life_of.Goals as goal

pub start-requires-clause-numbers : goal.start-requires-clause-numbers
start-requires-clause-numbers c = apart_by (λ (e : Counted). counted_number e.safety) c.args.effects.items c.requires

pub start-requires-clause-among : goal.start-requires-clause-among
start-requires-clause-among c = λ k used at.
    subst (λ l. Contains l (counted_number used.effect.safety)) (sym c.requires) (among_three used.effect.safety)

pub returns : goal.returns
returns c =
    started_life (λ (e : Counted). counted_number e.safety) c.graph.result.now.nodes.items 3 3 c.args.scene.now.graph c.in_ok-life.life
    (ap (λ (s : GraphShown Counted). s.nodes) c.graph.ensures.shown) c.in_ok-life.ensures.life
