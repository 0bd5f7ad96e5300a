use Rattle.std.proofs.Common.{◌≡◌, sym, w64}
use Rattle.std.proofs.lemmas.Int.{to_z-of_z}
use Rattle.fx_params.specs.Parameter.{value_after}
use Rattle.fx_params.proofs.ValueLemmas.{value_later}
use Rattle.fx_params.proofs.param.keyed_value.Goals as goal

pub returns-in-Some : goal.returns-in-Some
returns-in-Some c =
    let fits = c.ranges.frame in
    let passed = simp to_z-of_z at c.in-Some.ensures in
    let value : c.value_after.result ≡ value_after c.args.steps c.args.keys.now c.in-Some.last c.args.frame = simp to_z-of_z at c.value_after.ensures in
    rw (to_z-of_z w64 c.value_after.result (record { sfits = c.value_after.type_inv }), value) (sym (value_later c.args.steps c.args.plain c.args.keys.now c.args.frame c.in-Some.last passed))
