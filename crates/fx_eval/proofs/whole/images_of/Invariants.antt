use Rattle.std.proofs.Common.{◌≡◌, length, map, take}
use Rattle.std.specs.Arc.{arc_value}
use Rattle.std.specs.List.{All}
use Rattle.fx_eval.specs.Wholes.{rect_of}
use Rattle.fx_scene.specs.Windows.{IsWindowOf}
use Rattle.fx_eval.specs.Flights.{after_renders}
use Rattle.fx_eval.proofs.whole.images_of.Given as goal

abbrev pub invariant-loop-region : goal.invariant-loop-region
invariant-loop-region g l =
    record {
      rects : map rect_of (map arc_value l.images.items) ≡ take l.region-index l.region-items;
      each : All (λ image. IsWindowOf (g.E.ImageEffect.meaning l.node.effect.now) l.values l.inputs l.node.depth l.node.components image.rect image) (map arc_value l.images.items);
      renders : l.core ≡ after_renders l.fn.core (length l.images.items);
      seat : l.seat ≡ l.fn.seat;
    }
