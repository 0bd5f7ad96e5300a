use Rattle.std.proofs.Common.{◌≡◌, length, map}
use Rattle.std.specs.List.{range_with_len}
use Rattle.fx_scene.specs.Nodes.{Nodes}
use Rattle.fx_scene.specs.Sites.{effect_at}
use Rattle.fx_region.specs.Tables.{AreAreas}
use Rattle.fx_scene.proofs.ClipLemmas.{area_at}
use Rattle.fx_region.proofs.regions.clip_areas.Given as goal

abbrev pub invariant-loop-c : goal.invariant-loop-c
invariant-loop-c g l =
    record {
      count : l.c-end ≡ length l.node.clips.now;
      areas : (nodes : Nodes) → AreAreas nodes l.regions
          → l.areas.items ≡ map (area_at nodes (effect_at g.E.ImageEffect.meaning l.fn._project l.node) l.frame) (range_with_len 0 l.c);
    }
