use Rattle.std.proofs.Common.{w64, FitsSigned, rules}
use Rattle.std.proofs.lemmas.Int.{to_z-of_z}
use Rattle.fx_trans.proofs.wipe.WipeImageEffect.is_identity.Goals as goal

pub returns : goal.returns
returns c window is has =
    let frame : FitsSigned w64 c.args.values.now.frame = search rules in
    let e : FitsSigned w64 c.edge.result = search rules in
    let at = c.asked_window-window.ensures.value window is.bounds has in
    let whole = simp to_z-of_z at c.same.ensures in
    rw (at, c.edge.ensures, c.level.ensures.value) at whole
