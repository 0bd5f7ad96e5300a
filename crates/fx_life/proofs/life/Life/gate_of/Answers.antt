use Rattle.fx_life.proofs.LifeLemmas.{post_played}
use Rattle.fx_life.proofs.life.Life.gate_of.Goals as goal

pub plugin-requires : goal.plugin-requires
plugin-requires g c =
    post_played g.E.Catalogue.number_of c.args.self.now c.args.node c.post.result c.requires.plays.0 c.post.ensures
    c.requires.plays.1
