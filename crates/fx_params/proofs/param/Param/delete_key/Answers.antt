use Rattle.std.proofs.Common.{◌≡◌, ◌∙◌, refl}
use Rattle.std.proofs.lemmas.Int.{to_z-of_z}
use Rattle.fx_params.specs.Keys.{without_key}
use Rattle.fx_params.proofs.KeyLemmas.{remove_at_key, key_at_place, key_at_gap, changes_without}
use Rattle.fx_params.proofs.ParamLemmas.{IsSound-without_key}
use Rattle.fx_params.proofs.param.Param.delete_key.Goals as goal
use Rattle.fx_params.proofs.param.Param.delete_key.Goals.{After-remove}

removed : (c : After-remove) → c.remove.new.self.items ≡ without_key c.self.inside.keys.items c.args.frame
removed c =
    let fits = c.ranges.frame in
    let found = rw c.deref.ensures.value at (simp to_z-of_z at c.in-Ok.ensures.found) in
    c.remove.ensures.items ∙ remove_at_key c.self.inside.keys.items c.args.frame _ c.self.invariant.rising found

pub invariant_of-self : goal.invariant_of-self
invariant_of-self c = rw (removed c) (IsSound-without_key _ c.args.frame c.self.invariant)

pub returns-in-Ok-clause-answer : goal.returns-in-Ok-clause-answer
returns-in-Ok-clause-answer c =
    let fits = c.ranges.frame in
    let found = rw c.deref.ensures.value at (simp to_z-of_z at c.in-Ok.ensures.found) in
    rw (← c.self.view_is, key_at_place c.self.inside.keys.items c.args.frame _ c.self.invariant.rising found) refl

pub returns-in-Ok-clause-ok : goal.returns-in-Ok-clause-ok
returns-in-Ok-clause-ok c = rw (← c.self.view_is, removed c) refl

pub returns-in-Ok-clause-map : goal.returns-in-Ok-clause-map
returns-in-Ok-clause-map c = rw (← c.self.view_is, removed c) (changes_without c.self.inside.keys.items c.args.frame)

pub returns-in-Err-clause-answer : goal.returns-in-Err-clause-answer
returns-in-Err-clause-answer c =
    let fits = c.ranges.frame in
    let absent = rw c.deref.ensures.value at (simp to_z-of_z at c.in-Err.ensures.absent) in
    rw (← c.self.view_is, key_at_gap c.self.inside.keys.items c.args.frame _ absent) refl
