use Rattle.std.proofs.Common.{w64, FitsSigned, rules, arith, refl}
use Rattle.fx_point.proofs.Choices.{is_number}
use Rattle.fx_point.proofs.shuffle.keeps_all.Goals as goal

pub returns : goal.returns
returns c =
    let r : FitsSigned w64 c.number.result = search rules in
    let g : FitsSigned w64 c.number-2.result = search rules in
    let b : FitsSigned w64 c.number-3.result = search rules in
    let a : FitsSigned w64 c.number-4.result = search rules in
    rw (
      is_number c.number.result 0 r (omega arith),
      is_number c.number-2.result 1 g (omega arith),
      is_number c.number-3.result 2 b (omega arith),
      is_number c.number-4.result 3 a (omega arith),
      c.number.ensures,
      c.number-2.ensures,
      c.number-3.ensures,
      c.number-4.ensures,
    ) refl
