use Rattle.std.proofs.Common.{◌≡◌, [], ◌∷◌, sym, ◌∙◌}
use Rattle.std.proofs.lemmas.Iterator.Adapters.{YieldsList-from_vec}
use Rattle.std.proofs.lemmas.Iterator.Consumers.{YieldsList-end}
use Rattle.std.proofs.lemmas.List.{map-id, map-append}
use Rattle.std.proofs.lemmas.List.Elements.{All-push}
use Rattle.fx_props.specs.Property.{IsLawfulDef}
use Rattle.fx_props.specs.Entries.{def_of}
use Rattle.fx_props.proofs.EntryLaws.{IsMadeOf, apart_defs, has_values, are_blank}
use Rattle.fx_props.proofs.entry.set_of.Goals as goal

pub loop-entry-preserved : goal.loop-entry-preserved
loop-entry-preserved c =
    record {
      same =
          c.in_ok-push.ensures.items
          ∙ rw (c.loop-entry.invariant.same, c.into_def.ensures.def) (sym (map-append def_of c.loop-entry.yielded (c.in-Some.entry ∷ [])));
      lawful = rw c.in_ok-push.ensures.items (All-push IsLawfulDef c.loop-entry.defs.items c.into_def.result c.loop-entry.invariant.lawful c.into_def.ensures.lawful);
    }

pub new-requires-clause-names : goal.new-requires-clause-names
new-requires-clause-names c =
    let gives = c.into_iter-entry-iterator.ensures.into_iter_gives in
    let list = YieldsList-from_vec {s = c.into_iter-entry-iterator.result} c.args.entries.items gives.0 (gives.1 ∙ c.args.entries.ok.0) in
    let end = YieldsList-end list c.loop-entry.yielded c.loop-entry.entry-iterator c.loop-entry.yielded_by c.next.result c.next.new.self c.in-None.is c.next.ensures.steps in
    let all : c.loop-entry.yielded ≡ c.args.entries.items = sym (map-id c.loop-entry.yielded) ∙ end.0 in
    rw (c.loop-entry.invariant.same, all) (apart_defs c.args.entries.items c.requires)

pub returns-clause-values : goal.returns-clause-values
returns-clause-values c =
    let gives = c.into_iter-entry-iterator.ensures.into_iter_gives in
    let list = YieldsList-from_vec {s = c.into_iter-entry-iterator.result} c.args.entries.items gives.0 (gives.1 ∙ c.args.entries.ok.0) in
    let end = YieldsList-end list c.loop-entry.yielded c.loop-entry.entry-iterator c.loop-entry.yielded_by c.next.result c.next.new.self c.in-None.is c.next.ensures.steps in
    let all : c.loop-entry.yielded ≡ c.args.entries.items = sym (map-id c.loop-entry.yielded) ∙ end.0 in
    let made : IsMadeOf c.args.entries.items c.in_ok-new.field-0 = rw (c.loop-entry.invariant.same, all) at c.in_ok-new.ensures in
    has_values c.args.entries.items c.in_ok-new.field-0 c.requires made

pub returns-clause-blank : goal.returns-clause-blank
returns-clause-blank c =
    let gives = c.into_iter-entry-iterator.ensures.into_iter_gives in
    let list = YieldsList-from_vec {s = c.into_iter-entry-iterator.result} c.args.entries.items gives.0 (gives.1 ∙ c.args.entries.ok.0) in
    let end = YieldsList-end list c.loop-entry.yielded c.loop-entry.entry-iterator c.loop-entry.yielded_by c.next.result c.next.new.self c.in-None.is c.next.ensures.steps in
    let all : c.loop-entry.yielded ≡ c.args.entries.items = sym (map-id c.loop-entry.yielded) ∙ end.0 in
    let made : IsMadeOf c.args.entries.items c.in_ok-new.field-0 = rw (c.loop-entry.invariant.same, all) at c.in_ok-new.ensures in
    are_blank c.args.entries.items c.in_ok-new.field-0 c.requires made
