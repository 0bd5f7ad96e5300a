use Rattle.std.proofs.Common.{◌≡◌, Some, None, sym, refl, ◌∙◌}
use Rattle.std.specs.List.{position}
use Rattle.std.specs.Str.{bytes_eq}
use Rattle.std.proofs.lemmas.Result.{err_from_is_err_and}
use Rattle.std.proofs.lemmas.Option.{same_Some}
use Rattle.fx_props.proofs.SetLemmas.{property_at, property_none, replaces_at}
use Rattle.fx_props.proofs.set.PropSet.reset.Goals as goal

pub returns-in_err-reset-in-Some-clause-answer : goal.returns-in_err-reset-in-Some-clause-answer
returns-in_err-reset-in-Some-clause-answer c =
    let found : position (λ p. bytes_eq c.args.name.now p.0) c.self.inside.properties.items ≡ Some c.in-Some.at = rw (← c.deref.ensures.value) (sym c.in-Some.ensures) in
    let there = property_at c.self.inside.properties.items c.args.name.now c.in-Some.at c.index_mut.result.now found c.index_mut.ensures.value in
    let p = err_from_is_err_and c.from_residual.result c.from_residual.ensures.1 in
    rw (← c.self.view_is, there, p.1, p.2) refl

pub returns-in_ok-reset-in-Some-clause-answer : goal.returns-in_ok-reset-in-Some-clause-answer
returns-in_ok-reset-in-Some-clause-answer c =
    let found : position (λ p. bytes_eq c.args.name.now p.0) c.self.inside.properties.items ≡ Some c.in-Some.at = rw (← c.deref.ensures.value) (sym c.in-Some.ensures) in
    let there = property_at c.self.inside.properties.items c.args.name.now c.in-Some.at c.index_mut.result.now found c.index_mut.ensures.value in
    rw (← c.self.view_is, there) tt

pub returns-in_ok-reset-in-Some-clause-ok : goal.returns-in_ok-reset-in-Some-clause-ok
returns-in_ok-reset-in-Some-clause-ok c p is =
    let found : position (λ p. bytes_eq c.args.name.now p.0) c.self.inside.properties.items ≡ Some c.in-Some.at = rw (← c.deref.ensures.value) (sym c.in-Some.ensures) in
    let there = property_at c.self.inside.properties.items c.args.name.now c.in-Some.at c.index_mut.result.now found c.index_mut.ensures.value in
    let was = rw (← c.self.view_is) at is in
    let same = same_Some _ _ (sym there ∙ was) in
    rw (← c.self.view_is) (replaces_at c.self.inside.properties.items c.args.name.now c.in-Some.at c.index_mut.result.now c.reset.new.self p.start found c.index_mut.ensures.value (rw (← same) c.in_ok-reset-in-Some.ensures.ok))

pub returns-in-None-clause-answer : goal.returns-in-None-clause-answer
returns-in-None-clause-answer c =
    let none : position (λ p. bytes_eq c.args.name.now p.0) c.self.inside.properties.items ≡ None = rw (← c.deref.ensures.value) (sym c.in-None.ensures) in
    rw (← c.self.view_is, property_none c.self.inside.properties.items c.args.name.now none) refl
