use Rattle.std.proofs.Common.{◌≡◌, Some, None, sym, refl}
use Rattle.std.specs.List.{position}
use Rattle.std.specs.Str.{bytes_eq}
use Rattle.std.proofs.lemmas.Result.{on_ok_weaker}
use Rattle.fx_props.specs.Property.{placed}
use Rattle.fx_props.specs.Value.{value_given}
use Rattle.fx_props.proofs.SetLemmas.{property_at, property_none, replaces_at, values_of_kind}
use Rattle.fx_props.proofs.set.PropSet.put.Goals as goal

pub returns-in-Some-clause-answer : goal.returns-in-Some-clause-answer
returns-in-Some-clause-answer c =
    let found : position (λ p. bytes_eq c.args.name.now p.0) c.self.inside.properties.items ≡ Some c.in-Some.at = rw (← c.deref.ensures.value) (sym c.in-Some.ensures) in
    let there = property_at c.self.inside.properties.items c.args.name.now c.in-Some.at c.index_mut.result.now found c.index_mut.ensures.value in
    rw (← c.self.view_is, there) c.put.ensures.answer

pub returns-in-Some-clause-ok : goal.returns-in-Some-clause-ok
returns-in-Some-clause-ok c =
    let found : position (λ p. bytes_eq c.args.name.now p.0) c.self.inside.properties.items ≡ Some c.in-Some.at = rw (← c.deref.ensures.value) (sym c.in-Some.ensures) in
    let there = property_at c.self.inside.properties.items c.args.name.now c.in-Some.at c.index_mut.result.now found c.index_mut.ensures.value in
    on_ok_weaker c.put.result (λ put values is.
    let was = rw (← c.self.view_is, there) at is in
    let same = values_of_kind _ _ _ was in
    rw (← c.self.view_is) (replaces_at c.self.inside.properties.items c.args.name.now c.in-Some.at c.index_mut.result.now c.put.new.self (placed values c.args.index (value_given c.args.given)) found c.index_mut.ensures.value (rw (← same) put))) c.put.ensures.ok

pub returns-in-None-clause-answer : goal.returns-in-None-clause-answer
returns-in-None-clause-answer c =
    let none : position (λ p. bytes_eq c.args.name.now p.0) c.self.inside.properties.items ≡ None = rw (← c.deref.ensures.value) (sym c.in-None.ensures) in
    rw (← c.self.view_is, property_none c.self.inside.properties.items c.args.name.now none) refl
