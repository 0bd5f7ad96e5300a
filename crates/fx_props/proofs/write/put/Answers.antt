use Rattle.std.proofs.Common.{rules, w64, FitsSigned}
use Rattle.std.proofs.lemmas.Int.{to_z-of_z}
use Rattle.fx_props.proofs.write.put.Goals as goal

pub returns-in-Int-clause-ok : goal.returns-in-Int-clause-ok
returns-in-Int-clause-ok c =
    let fits : FitsSigned w64 c.in-Int.n = search rules in
    rw c.in-Int.is (simp to_z-of_z at c.set_int.ensures.ok)

pub returns-in-Fix-clause-ok : goal.returns-in-Fix-clause-ok
returns-in-Fix-clause-ok c = rw c.in-Fix.is c.set_fix.ensures.ok

pub returns-in-Text-clause-ok : goal.returns-in-Text-clause-ok
returns-in-Text-clause-ok c = rw (c.in-Text.is, ← c.text.ensures) c.set_text.ensures.ok
