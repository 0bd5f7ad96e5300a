use Rattle.std.proofs.Common.{◌≡◌, map, take}
use Rattle.fx_scene.specs.Sites.{seen_in}
use Rattle.fx_scene.proofs.site.seen_components.Given as goal

abbrev pub invariant-loop-mask : goal.invariant-loop-mask
invariant-loop-mask l = l.seen.items ≡ map (seen_in l.components) (take l.mask-index l.masks)
