use Rattle.std.proofs.Common.{◌∙◌, rules}
use Rattle.fx_proxy.proofs.LengthLemmas.{length_is}
use Rattle.fx_proxy.proofs.lengths.scale_param.Goals as goal

pub returns-then-is_length : goal.returns-then-is_length
returns-then-is_length c =
    let is = c.is_length.ensures in
    c.divide.ensures
    ∙ length_is c.args.effect c.args.place c.args.q c.args.param.now (search rules) c.requires.length c.requires.scale.0 c.def-def.ensures.kept
