use Rattle.std.proofs.Common.{◌≡◌, drop, [], length, map}
use Rattle.fx_graph.specs.Shown.{shown, names_of}
use Rattle.fx_graph.specs.Nodes.{nodes_of, IsIndex}
use Rattle.fx_graph.specs.Kept.{AreNodes}
use Rattle.fx_graph.proofs.accepting.accept_nodes.Given as goal

abbrev pub invariant-loop-raw : goal.invariant-loop-raw
invariant-loop-raw g l =
    record {
      whole : nodes_of g.E.Catalogue.find g.E.ImageEffect.meaning l.project [] l.raws ≡ nodes_of g.E.Catalogue.find g.E.ImageEffect.meaning l.project (map shown l.nodes.items) (drop l.raw-index l.raws);
      index : IsIndex l.places (names_of (map shown l.nodes.items));
      count : length l.nodes.items ≡ l.raw-index;
      kept : AreNodes g.E.ImageEffect.meaning l.project (map shown l.nodes.items);
    }
