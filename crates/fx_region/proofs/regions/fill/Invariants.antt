use Rattle.fx_scene.specs.Sites.{site_nodes}
use Rattle.fx_region.specs.Tables.{AreAreas, AreAskedSo}
use Rattle.fx_region.proofs.TableLemmas.{IsFilling}
use Rattle.fx_region.proofs.regions.fill.Given as goal

abbrev pub invariant-loop-node_frame : goal.invariant-loop-node_frame
invariant-loop-node_frame g l =
    record {
      right : AreAreas (site_nodes g.E.ImageEffect.meaning l.site) l.regions;
      asked : AreAskedSo (site_nodes g.E.ImageEffect.meaning l.site) l.regions;
      filling : IsFilling l.node_frames l.node_frame-iterator l.regions;
    }
