use Rattle.std.proofs.Common.{◌∙◌, ap}
use Rattle.fx_move.specs.Mirror.{mirror, mirrored}
use Rattle.fx_move.specs.MirrorLaws.{mirror_laws}
use Rattle.fx_move.proofs.AnswerLaws.{region_fits}
use Rattle.fx_move.proofs.mirror.MirrorImageEffect.get_region_of_definition.Goals as goal

pub write_region-requires-clause-near : goal.write_region-requires-clause-near
write_region-requires-clause-near c =
    let v = c.args.values.now in
    region_fits mirror v c.args.regions.now _ c.mirrored-region.result mirror_laws c.requires.asked c.requires.regions
    (λ context. c.mirrored-region.ensures ∙ ap (mirrored v) c.region_of.ensures)
