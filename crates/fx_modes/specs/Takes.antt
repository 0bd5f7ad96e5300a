-- Takes that may be done on a graph.
use Rattle.std.specs.Prelude.{◌≤◌, List, length}
use Rattle.fx_graph.specs.Shown.{Shown}
use Rattle.fx_text.specs.declared.raw.TheConstants.{MOST_TAKES}
use Rattle.fx_scene.specs.Takes.{AreEdits, edits_of}
use Rattle.fx_scene.specs.declared.take.Take.{Take}
use Rattle.fx_shipped.specs.declared.shipped.Shipped.{Shipped}

-- there are at most 64, and each edit is of a parameter of one of these nodes
pub record AreTakesOf (nodes : List (Shown Shipped)) (takes : List Take) : Type 0 where
  pub few : length takes ≤ MOST_TAKES
  pub edits : AreEdits nodes (edits_of takes)
