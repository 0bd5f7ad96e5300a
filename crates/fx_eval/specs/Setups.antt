-- What renders are made from.
use Rattle.std.specs.Prelude.{◌≡◌, ◌≤◌, ◌+◌, ℕ, length, None}
use Rattle.fx_effect.specs.Meaning.{Meaning}
use Rattle.fx_gate.specs.Gates.{GateSeatState}
use Rattle.fx_life.specs.Posts.{HasLife}
use Rattle.fx_scene.specs.Nodes.{Nodes, AreNodes}
use Rattle.fx_scene.specs.Scenes.{graph_shown}
use Rattle.fx_scene.specs.Sites.{nodes_over}
use Rattle.fx_eval.specs.declared.setup.Setup.{Setup}

-- the nodes of the setup's graph, over its frames
abbrev pub setup_nodes : {E : Type 0} {c e : _} → (E → Meaning) → Setup E c e → Nodes
setup_nodes meaning setup = nodes_over meaning setup.graph.now setup.store.now

pub record IsSetup {E : Type 0} {c e : _} (meaning : E → Meaning) (number : E → ℕ) (setup : Setup E c e) : Type 0 where
  pub scene : setup.scene.now.graph ≡ graph_shown setup.graph.now
  pub nodes : AreNodes (setup_nodes meaning setup)
  pub life : HasLife number (graph_shown setup.graph.now) setup.life.now
  pub gates : 64 + length (graph_shown setup.graph.now).nodes ≤ setup.gates.now.gates

-- the seat is of the row of the setup's gates, and holds none of them
pub record IsFree {E : Type 0} {c e : _} (setup : Setup E c e) (seat : GateSeatState) : Type 0 where
  pub row : seat.row ≡ setup.gates.now
  pub turn : seat.turn ≡ None
