use Rattle.std.proofs.Common.{arith}
use Rattle.fx_area.proofs.convolve3.ConvolvedRows.convolve.Goals as goal

pub returns-in-Byte : goal.returns-in-Byte
returns-in-Byte c = rw c.in-Byte.is (λ s room. c.convolve_bytes.ensures s (omega (arith, room)))

pub returns-in-Short : goal.returns-in-Short
returns-in-Short c = rw c.in-Short.is (λ s room. c.convolve_each.ensures.done s (omega arith) room)
