use Rattle.std.proofs.Common.{◌≢◌, List, map, ap, sym, subst}
use Rattle.std.specs.List.{AllPairs, Contains}
use Rattle.fx_graph.specs.Shown.{GraphShown}
use Rattle.fx_shipped.specs.declared.shipped.Shipped.{Shipped}
use Rattle.fx_shipped.specs.Shipped.{number_of}
use Rattle.fx_life.proofs.LifeLemmas.{started_life}
use Rattle.fx_shipped.proofs.NumberLaws.{numbers_differ, number_among}
use Rattle.fx_rows.proofs.engines.life_of.Goals as goal

pub start-requires-clause-numbers : goal.start-requires-clause-numbers
start-requires-clause-numbers c =
    subst (λ (es : List Shipped). AllPairs (λ a b. number_of a ≢ number_of b) es)
    (sym c.in_ok-all_effects.ensures) numbers_differ

pub start-requires-clause-among : goal.start-requires-clause-among
start-requires-clause-among c = λ k used at.
    subst (λ (es : List Shipped). Contains (map number_of es) (number_of used.effect)) (sym c.in_ok-all_effects.ensures)
    (number_among used.effect)

pub returns : goal.returns
returns c =
    started_life number_of c.graph.result.now.nodes.items 0 3 c.args.scene.now.graph c.in_ok-life.life
    (ap (λ (s : GraphShown Shipped). s.nodes) c.graph.ensures.shown) c.in_ok-life.ensures.life
