use Rattle.std.proofs.Common.{◌≡◌, OnOk, ℤ, pos, ◌*ℤ◌, ap, sym, subst, w64}
use Rattle.std.proofs.lemmas.Int.{to_z-of_z}
use mir.Val.{SFits}
use Rattle.fx_base.specs.declared.fix.Fix.{Fix}
use Rattle.fx_props.specs.declared.value.PropKind.{PropKind}
use Rattle.fx_props.specs.declared.value.PropValue.TheVariants as value
use Rattle.fx_props.specs.Set.{Puts}
use Rattle.fx_actions.specs.Asking.{number_value}
use Rattle.fx_actions.proofs.asking.put.Goals as goal

pub returns-in-Int-clause-ok : goal.returns-in-Int-clause-ok
returns-in-Int-clause-ok c =
    let fits : SFits w64 c.args.n = c.ranges.n in
    let put = simp to_z-of_z at c.set_int.ensures.ok in
    subst (λ (k : PropKind). OnOk c.set_int.result (Puts c.args.set.now c.set_int.new.self c.args.name.now c.args.index (number_value k c.args.n))) (sym c.in-Int.is) put

pub returns-in-Fix-clause-ok : goal.returns-in-Fix-clause-ok
returns-in-Fix-clause-ok c =
    let fits : SFits w64 c.args.n = c.ranges.n in
    let whole = simp to_z-of_z at c.of_whole.ensures in
    let same : c.of_whole.result ≡ record { raw = c.args.n *ℤ pos 65536 } = ap (λ (raw : ℤ). record { raw = raw }) whole in
    subst (λ (k : PropKind). OnOk c.set_fix.result (Puts c.args.set.now c.set_fix.new.self c.args.name.now c.args.index (number_value k c.args.n))) (sym c.in-Fix.is)
    (subst (λ (fix : Fix). OnOk c.set_fix.result (Puts c.args.set.now c.set_fix.new.self c.args.name.now c.args.index (value.Fix fix))) same c.set_fix.ensures.ok)
