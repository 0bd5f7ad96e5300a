use Rattle.std.proofs.Common.{◌≡◌, refl, rules}
use Rattle.std.proofs.lemmas.Result.{err_from_is_err_and}
use Rattle.fx_params.specs.Value.{number_of}
use Rattle.fx_params.specs.Keys.{with_key}
use Rattle.fx_params.proofs.KeyLemmas.{changes_with}
use Rattle.fx_params.proofs.ParamLemmas.{accepted_within, IsSound-with_key}
use Rattle.fx_params.proofs.param.Param.set_key.Goals as goal
use Rattle.fx_params.proofs.param.Param.set_key.Goals.{In_ok-put}

pub returns-in_err-value-clause-answer : goal.returns-in_err-value-clause-answer
returns-in_err-value-clause-answer c =
    let p = err_from_is_err_and c.from_residual.result c.from_residual.ensures.1 in
    rw (p.1, p.2, ← c.self.view_is, c.in_err-value.ensures.refused) refl

-- the keys after the put
keys_are : (c : In_ok-put) → c.put.new.keys.items ≡ with_key c.self.inside.keys.items (record { frame = c.args.frame; value = number_of c.args.v })
keys_are c = search rules

pub invariant_of-self-2 : goal.invariant_of-self-2
invariant_of-self-2 c =
    let within = accepted_within c.self.inside.def c.args.v c.in_ok-value.ensures.accepted in
    rw (keys_are c) (IsSound-with_key _ (record { frame = c.args.frame; value = number_of c.args.v }) c.self.invariant (c.requires.low, c.requires.high) within)

pub returns-clause-map : goal.returns-clause-map
returns-clause-map c = rw (← c.self.view_is, keys_are c) (changes_with c.self.inside.keys.items (record { frame = c.args.frame; value = number_of c.args.v }))
