use Rattle.std.proofs.Common.{◌≡◌, map, drop}
use Rattle.fx_scene.specs.Areas.{area, hull_all, hull_with}
use Rattle.fx_scene.specs.Nodes.{Nodes}
use Rattle.fx_region.specs.Tables.{AreAreas}
use Rattle.fx_region.proofs.regions.hull_over.Given as goal

abbrev pub invariant-loop-f : goal.invariant-loop-f
invariant-loop-f l =
    (nodes : Nodes) → AreAreas nodes l.regions
    → hull_with l.hull (map (area nodes l.m) (drop l.f-index l.frames)) ≡ hull_all (map (area nodes l.m) l.frames)
