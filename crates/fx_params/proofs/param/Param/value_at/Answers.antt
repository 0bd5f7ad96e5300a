use Rattle.std.proofs.Common.{◌≡◌, to_z, of_z, w64, subst, rules}
use Rattle.fx_params.specs.Parameter.{IsSound, value_at}
use Rattle.fx_params.proofs.ValueLemmas.{value_law, value_within}
use Rattle.fx_params.proofs.param.Param.value_at.Goals as goal

pub returns-clause-by_keys : goal.returns-clause-by_keys
returns-clause-by_keys c =
    let is : to_z w64 (of_z w64 c.keyed_value.result) ≡ value_at c.args.self.now c.args.frame = search rules in
    let sound = subst IsSound c.self.view_is c.self.invariant in
    rw is (value_law c.args.self.now sound.rising c.args.frame)

pub returns-clause-in_range : goal.returns-clause-in_range
returns-clause-in_range c =
    let is : to_z w64 (of_z w64 c.keyed_value.result) ≡ value_at c.args.self.now c.args.frame = search rules in
    rw is (value_within c.args.self.now (subst IsSound c.self.view_is c.self.invariant) c.args.frame)
