use Rattle.std.proofs.Common.{◌∙◌, ap, not}
use Rattle.fx_tile.proofs.SetupLemmas.{effect_whole, source_whole}
use Rattle.fx_tile.proofs.kept.is_whole.Goals as goal

pub returns-in-Source : goal.returns-in-Source
returns-in-Source g c =
    source_whole g.E.ImageEffect.meaning g.E.Catalogue.number_of c.args.setup.now c.requires.setup c.args.node c.in-Source.field-0 c.in-Source.ensures

pub returns-in-Effect : goal.returns-in-Effect
returns-in-Effect g c =
    ap not c.supports_tiles.ensures
    ∙ effect_whole g.E.ImageEffect.meaning g.E.Catalogue.number_of c.args.setup.now c.requires.setup c.args.node c.in-Effect.node c.in-Effect.ensures.0 c.in-Effect.ensures.1
