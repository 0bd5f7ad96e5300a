use Rattle.std.proofs.Common.{arith}
use Rattle.fx_params.proofs.KeyLemmas.{few_keys}
use Rattle.fx_params.proofs.param.Param.key_count.Goals as goal

-- rising frames are no more than there are frames
pub overflow_cast-result : goal.overflow_cast-result
overflow_cast-result c = omega (arith, few_keys c.self.inside.keys.items c.self.invariant.frames c.self.invariant.rising)
