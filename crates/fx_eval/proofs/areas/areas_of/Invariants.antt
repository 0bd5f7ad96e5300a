use Rattle.std.proofs.Common.{◌≡◌, length, map}
use Rattle.std.specs.List.{range_with_len}
use Rattle.fx_scene.specs.Nodes.{Nodes}
use Rattle.fx_scene.specs.Sites.{effect_at}
use Rattle.fx_eval.specs.Wholes.{AreWhole}
use Rattle.fx_scene.proofs.ClipLemmas.{area_at}
use Rattle.fx_eval.proofs.areas.areas_of.Given as goal

abbrev pub invariant-loop-c : goal.invariant-loop-c
invariant-loop-c g l =
    record {
      count : l.c-end ≡ length l.node.clips.now;
      areas : (nodes : Nodes) → AreWhole nodes l.made
          → l.areas.items ≡ map (area_at nodes (effect_at g.E.ImageEffect.meaning l.fn._project l.node) l.frame) (range_with_len 0 l.c);
    }
