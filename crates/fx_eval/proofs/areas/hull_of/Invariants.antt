use Rattle.std.proofs.Common.{◌≡◌, map, drop}
use Rattle.fx_scene.specs.Nodes.{Nodes}
use Rattle.fx_scene.specs.Areas.{area, hull_all, hull_with}
use Rattle.fx_eval.specs.Wholes.{AreWhole}
use Rattle.fx_eval.proofs.areas.hull_of.Given as goal

abbrev pub invariant-loop-f : goal.invariant-loop-f
invariant-loop-f l =
    (nodes : Nodes) → AreWhole nodes l.made
    → hull_with l.hull (map (area nodes l.m) (drop l.f-index l.frames)) ≡ hull_all (map (area nodes l.m) l.frames)
