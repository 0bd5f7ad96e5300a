use Rattle.std.proofs.Common.{subst, sym}
use Rattle.fx_scene.specs.Scenes.{Shot}
use Rattle.fx_tile.specs.KeyLaws.{MayGrow}
use Rattle.fx_tile.proofs.share.Shared.renew_tiles.Goals as goal

pub renew-requires-clause-grown : goal.renew-requires-clause-grown
renew-requires-clause-grown g c =
    subst (λ (s : Shot _). MayGrow g.E.ImageEffect.meaning c.args.self.directory.name.scene.value s) (sym c.of-name.ensures) c.requires.grown
